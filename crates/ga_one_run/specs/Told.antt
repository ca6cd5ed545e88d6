-- What a run answers over told files and told sides of the disk, where no call fails and memory is at hand: one status, and
-- where it is done one text, one sum and one list of entries.
use Rattle.std.specs.Prelude.{◌≡◌, ◌≢◌, ℕ, ◌+◌, true, false, List, [], Option, Some, None}
use Rattle.std.specs.List.{AllByRecursion}
use Rattle.ga_agents.specs.RulesFile.{FileGives, IsBadLine}
use Rattle.ga_agents.specs.declared.row.Rule.{Rule}
use Rattle.ga_base.specs.declared.counts.Counter.{Counter}
use Rattle.ga_base.specs.declared.counts.Counter.TheVariants.{Generations}
use Rattle.ga_base.specs.declared.counts.TheConstants.{LIMIT}
use Rattle.ga_base.specs.declared.entry.Entry.{Entry}
use Rattle.ga_disk.specs.Sides.{Sides}
use Rattle.ga_line.specs.declared.setup.LineSetup.{LineSetup}
use Rattle.ga_outcomes.specs.LineOutcomes.{CountsLines, FillsAmong}
use Rattle.ga_logs.specs.Following.{AreTold, AreSomeTold}
use Rattle.ga_logs.specs.Portions.{counted_lines}
use Rattle.ga_logs.specs.declared.portion.Portion.{Portion}
use Rattle.ga_ports.specs.Files.{FilesView, told}
use Rattle.ga_store.specs.Database.{DbOf, DbValue}
use Rattle.ga_store.specs.Database.Reading.{damaged}
use Rattle.ga_summary.specs.SummaryRows.{SummaryValue}
use Rattle.ga_words.specs.declared.settings.Settings.{Settings}
use Rattle.ga_keep.specs.RunDatabase.{AreBase, IsWhole, SidesHave, differing, lacks_generation, start_of, uses_database}
use Rattle.ga_one_run.specs.Inputs.{inputs_of}
use Rattle.ga_one_run.specs.Reports.{IsTextOf}
use Rattle.ga_one_run.specs.Setups.{setup_of}
use Rattle.ga_one_run.specs.declared.status.Status.{Status}
use Rattle.ga_one_run.specs.declared.status.Status.TheVariants.{Done, BadRules, CounterFull, DbDamaged, KeepDiffers}

-- the contents of each file that a run reads are told
abbrev pub InputsAreTold : Settings → FilesView → Type 0
InputsAreTold s files = AllByRecursion (λ name. told name files.contents ≢ None) (inputs_of s)

-- the rules of the browsers file by its told content; there are none where none is named
abbrev pub RulesAreTold : Option (List ℕ) → FilesView → List Rule → Type 0
RulesAreTold None files rules = rules ≡ []
RulesAreTold (Some name) files rules = (text : List ℕ) × (told name files.contents ≡ Some text) × FileGives text rules

-- the first line of it that is no rule
pub record HasBadLine (s : Settings) (files : FilesView) (at : ℕ) : Type 0 where
  pub name : List ℕ
  pub named : s.browsers_file ≡ Some name
  pub text : List ℕ
  pub told : told name files.contents ≡ Some text
  pub bad : IsBadLine text at

-- the logs have this sum, with what was stored that whole, and leave these entries
pub record CountsTold (line : LineSetup) (s : Settings) (rules : List Rule) (stored : DbValue) (files : FilesView)
    (whole : SummaryValue) (entries' : List Entry) : Type 0 where
  pub entries : List Entry
  pub begin : AreBase s stored entries
  pub portions : List Portion
  pub told : AreTold (start_of s stored).follow files.contents s.logs entries entries' portions
  pub run : SummaryValue
  pub counts : CountsLines (setup_of line s rules) (start_of s stored).totals (counted_lines s.generate (start_of s stored).follow portions) run
  pub is_whole : IsWhole s stored run whole

-- the lines of some of the logs, up to one of them, fill a counter
pub record FillsTold (line : LineSetup) (s : Settings) (rules : List Rule) (stored : DbValue) (files : FilesView)
    (which : Counter) (total : ℕ) : Type 0 where
  pub entries : List Entry
  pub begin : AreBase s stored entries
  pub portions : List Portion
  pub told : AreSomeTold (start_of s stored).follow files.contents s.logs entries portions
  pub fills : FillsAmong (setup_of line s rules) (start_of s stored).totals (counted_lines s.generate (start_of s stored).follow portions) which total

-- what a run that is done prints, and what it keeps where it persists
pub record Yield : Type 0 where
  pub text : List ℕ
  pub whole : SummaryValue
  pub entries : List Entry

pub data Answers (line : LineSetup) (s : Settings) (files : FilesView) (sides : Sides) : Status → Option Yield → Type 0 where
  answers_rules : {at : ℕ} → HasBadLine s files at → Answers line s files sides (BadRules at) None
  answers_damage : (rules : List Rule) {side at : ℕ} → RulesAreTold s.browsers_file files rules → uses_database s ≡ true
      → DbOf sides (damaged side at) → Answers line s files sides (DbDamaged side at) None
  answers_differs : (rules : List Rule) (stored : DbValue) {number : ℕ} → RulesAreTold s.browsers_file files rules
      → SidesHave s sides stored → differing s stored ≡ Some number → Answers line s files sides (KeepDiffers number s.keep) None
  answers_full : (rules : List Rule) (stored : DbValue) {which : Counter} {total : ℕ} → RulesAreTold s.browsers_file files rules
      → SidesHave s sides stored → differing s stored ≡ None → FillsTold line s rules stored files which total
      → Answers line s files sides (CounterFull which total) None
  answers_generation : (rules : List Rule) (stored : DbValue) (whole : SummaryValue) (entries : List Entry)
      → RulesAreTold s.browsers_file files rules → SidesHave s sides stored → differing s stored ≡ None
      → CountsTold line s rules stored files whole entries → lacks_generation s stored ≡ true → Answers line s files sides (CounterFull Generations (LIMIT + 1)) None
  answers_done : (rules : List Rule) (stored : DbValue) {yield : Yield} → RulesAreTold s.browsers_file files rules
      → SidesHave s sides stored → differing s stored ≡ None → CountsTold line s rules stored files yield.whole yield.entries
      → lacks_generation s stored ≡ false
      → IsTextOf s yield.whole yield.text → Answers line s files sides Done (Some yield)
