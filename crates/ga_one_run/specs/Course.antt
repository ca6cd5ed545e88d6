-- The course of a run over its inputs: the browsers file, the database, the logs.
use Rattle.std.specs.Prelude.{◌≡◌, ℕ, List, [], Option, Some, None}
use Rattle.ga_agents.specs.RulesFile.{FileGives}
use Rattle.ga_agents.specs.declared.row.Rule.{Rule}
use Rattle.ga_base.specs.declared.entry.Entry.{Entry}
use Rattle.ga_disk.specs.Disk.{DiskView}
use Rattle.ga_line.specs.declared.setup.LineSetup.{LineSetup}
use Rattle.ga_outcomes.specs.LineOutcomes.{CountsLines}
use Rattle.ga_logs.specs.Following.{ReadsAll, ReadsPortion}
use Rattle.ga_logs.specs.Portions.{counted_lines}
use Rattle.ga_resume.specs.declared.follow.Follow.TheVariants.{Whole}
use Rattle.ga_outcomes.specs.declared.setup.Setup.{Setup}
use Rattle.ga_logs.specs.declared.portion.Portion.{Portion}
use Rattle.ga_ports.specs.Files.{FilesView}
use Rattle.ga_store.specs.Database.{DbValue}
use Rattle.ga_summary.specs.Sound.{IsSummary}
use Rattle.ga_summary.specs.SummaryRows.{SummaryValue}
use Rattle.ga_words.specs.declared.settings.Settings.{Settings}
use Rattle.ga_keep.specs.RunDatabase.{AreBase, IsWhole, differing, start_of}
use Rattle.ga_one_run.specs.Keeping.{FindsThere}
use Rattle.ga_one_run.specs.Setups.{setup_of}

-- the rules of the browsers file, which was read whole; there are none, and nothing was read, where none is named
abbrev pub HasRules : Option (List ℕ) → FilesView → FilesView → List Rule → Type 0
HasRules None files files' rules = (files' ≡ files) × (rules ≡ [])
HasRules (Some name) files files' rules = (text : Portion) × ReadsPortion Whole [] name files files' text × FileGives text.bytes rules

-- the logs were counted with this setup, from what was stored on
pub record HasCounted (setup : Setup) (s : Settings) (stored : DbValue) (files files' : FilesView) : Type 0 where
  pub entries : List Entry
  pub begin : AreBase s stored entries
  pub entries' : List Entry
  pub portions : List Portion
  pub read : ReadsAll (start_of s stored).follow s.logs entries entries' files files' portions
  -- the sum of the lines that the run counted, and the whole
  pub run : SummaryValue
  pub is_summary : IsSummary run
  pub counts : CountsLines setup (start_of s stored).totals (counted_lines s.generate (start_of s stored).follow portions) run
  pub whole : SummaryValue
  pub is_whole : IsWhole s stored run whole

-- a run up to its report: the rules were read, the database was found, which keeps no other number of days, and the logs were
-- counted
pub record ReachesReport (line : LineSetup) (s : Settings) (files files' : FilesView) (disk disk' : DiskView) : Type 0 where
  pub rules : List Rule
  pub mid : FilesView
  pub has_rules : HasRules s.browsers_file files mid rules
  pub stored : DbValue
  pub finds : FindsThere s disk disk' stored
  pub agrees : differing s stored ≡ None
  pub counted : HasCounted (setup_of line s rules) s stored mid files'
