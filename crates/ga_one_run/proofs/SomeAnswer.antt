-- Over told files and sides a run has an answer.
use Rattle.std.proofs.Common.{◌≡◌, ◌≢◌, ℕ, Bool, true, false, List, [], ◌++◌, refl, sym, subst, inl, inr, Option, Some, None}
use Rattle.std.specs.List.{AllByRecursion}
use Rattle.ga_agents.specs.RulesFile.{IsAnswered}
use Rattle.ga_agents.specs.declared.row.Rule.{Rule}
use Rattle.ga_base.specs.declared.counts.Counter.{Counter}
use Rattle.ga_base.specs.declared.counts.Totals.{Totals}
use Rattle.ga_base.specs.declared.date_spec.DateSpec.{DateSpec}
use Rattle.ga_base.specs.declared.entry.Entry.{Entry}
use Rattle.ga_disk.specs.Sides.{Sides}
use Rattle.ga_keep.specs.RunDatabase.{IsWhole, SidesHave, differing, follow_of, lacks_generation, mode_of, start_of, uses_database}
use Rattle.ga_line.specs.declared.setup.LineSetup.{LineSetup}
use Rattle.ga_logs.specs.Portions.{counted_lines}
use Rattle.ga_outcomes.specs.LineOutcomes.{CountsLines, FillsAmong}
use Rattle.ga_outcomes.specs.declared.setup.Setup.{Setup}
use Rattle.ga_ports.specs.Files.{FilesView, told}
use Rattle.ga_report.specs.OfSummary.{source_value}
use Rattle.ga_report.specs.Reports.{IsReport}
use Rattle.ga_report.specs.Source.{SourceValue}
use Rattle.ga_report.specs.declared.report.Report.{Report}
use Rattle.ga_store.specs.Commit.{MergesBy}
use Rattle.ga_store.specs.Database.{DbOf, DbValue, Reading, empty_db}
use Rattle.ga_store.specs.Database.Reading.{damaged, stored as reads_as}
use Rattle.ga_store.specs.declared.mode.Mode.{Mode}
use Rattle.ga_store.specs.declared.mode.Mode.TheVariants.{Append, Overwrite}
use Rattle.ga_summary.specs.LastDays.{trimmed}
use Rattle.ga_summary.specs.SummaryRows.{IsInOrder, SummaryValue}
use Rattle.ga_summary.specs.Sums.{IsMerged}
use Rattle.ga_words.specs.declared.settings.Settings.{Settings}
use Rattle.ga_one_run.specs.Inputs.{rules_file}
use Rattle.ga_one_run.specs.Reports.{IsTextOf, shown}
use Rattle.ga_one_run.specs.Setups.{setup_of}
use Rattle.ga_one_run.specs.Told.{Answers, CountsTold, InputsAreTold, RulesAreTold, Yield}
use Rattle.ga_one_run.specs.Told.Answers.{answers_rules, answers_damage, answers_differs, answers_full, answers_generation, answers_done}
use Rattle.ga_one_run.specs.declared.status.Status.{Status}
use Rattle.ga_one_run.proofs.SomeCourse.{SomeChoice, all-are-some, some-course}
use Rattle.ga_one_run.proofs.GoodDb.{have-good, some-base}

-- what the laws say
pub record SomeLaws : Type 0 where
  pub reading : (text : List ℕ) → IsAnswered text
  pub database : (sides : Sides) → ((reading : Reading) → DbOf sides reading → ⊥) → ⊥
  pub choice : SomeChoice
  pub count : (setup : Setup) (start : Totals) (all : List (List ℕ)) → ((sum : SummaryValue) → CountsLines setup start all sum → ⊥)
      → ((which : Counter) (total : ℕ) → FillsAmong setup start all which total → ⊥) → ⊥
  pub merged : (a b : SummaryValue) → IsInOrder a.rows → IsInOrder b.rows → (s : SummaryValue) × IsMerged a b s
  pub report : (source : SourceValue) (set : List Bool) (most : ℕ) (spec : DateSpec) → (report : Report) × IsReport source set most spec report

-- the names are told
abbrev AreThere : FilesView → List (List ℕ) → Type 0
AreThere files names = AllByRecursion (λ name. told name files.contents ≢ None) names

logs-there : (files : FilesView) (file : Option (List ℕ)) (logs : List (List ℕ)) → AreThere files (rules_file file ++ logs) → AreThere files logs
logs-there files None logs all = all
logs-there files (Some name) logs all = all.1

module _ (laws : SomeLaws) (s : Settings) (line : LineSetup) (files : FilesView) (sides : Sides)
    (all : InputsAreTold s files) (none : (status : Status) (yield : Option Yield) → Answers line s files sides status yield → ⊥) where
  -- the logs are counted by these rules, from what is stored on, which keeps no other number of days
  module _ (rules : List Rule) (are-rules : RulesAreTold s.browsers_file files rules) (stored : DbValue) (have : SidesHave s sides stored) (agrees : differing s stored ≡ None) where
    some-whole : (run : SummaryValue) → IsInOrder run.rows → (whole : SummaryValue) × IsWhole s stored run whole
    some-whole run ordered = by (mode_of s)
      where
        by : (mode : Mode) → (whole : SummaryValue) × MergesBy mode s.keep stored.summary run whole
        by Overwrite = (trimmed s.keep run, refl)
        by Append = let (both, merged) = laws.merged stored.summary run (have-good s sides stored have).ordered ordered in (trimmed s.keep both, (both, merged, refl))

    some-text : (whole : SummaryValue) → (text : List ℕ) × IsTextOf s whole text
    some-text whole =
        let (report, is) = laws.report (source_value whole) s.panels s.max_items s.date_spec in
        (shown s.generate s.output.kind report, record { report = report; is_report = is; written = refl })

    -- the generation is above the limit, or the run is done
    ends-counted : (whole : SummaryValue) (entries : List Entry) → CountsTold line s rules stored files whole entries → ⊥
    ends-counted whole entries counts = by (lacks_generation s stored) refl
      where
        by : (lacks : Bool) → lacks_generation s stored ≡ lacks → ⊥
        by true lacks = none _ None (answers_generation rules stored whole entries are-rules have agrees counts lacks)
        by false room =
            let (text, is) = some-text whole in
            let yield : Yield = record { text = text; whole = whole; entries = entries } in
            none _ (Some yield) (answers_done rules stored {yield = yield} are-rules have agrees counts room is)

    ends-logs : ⊥
    ends-logs =
        let (entries, begin) = some-base s stored (have-good s sides stored have) in
        let (entries', portions, course) = some-course laws.choice (follow_of s) files.contents s.logs entries (logs-there files s.browsers_file s.logs all) in
        laws.count (setup_of line s rules) (start_of s stored).totals (counted_lines s.generate (follow_of s) portions)
        (λ run counts.
        let (whole, is) = some-whole run counts.is_sum.ordered in
        ends-counted whole entries' (record { entries = entries; begin = begin; portions = portions; told = course; run = run; counts = counts; is_whole = is }))
        (λ which total fills. none _ None (answers_full rules stored are-rules have agrees (record {
          entries = entries;
          begin = begin;
          portions = portions;
          told = all-are-some (follow_of s) files.contents s.logs entries entries' portions course;
          fills = fills;
        })))

  -- what is stored keeps another number of days, or the logs are counted
  ends-stored : (rules : List Rule) → RulesAreTold s.browsers_file files rules → (stored : DbValue) → SidesHave s sides stored → ⊥
  ends-stored rules are stored have = by (differing s stored) refl
    where
      by : (other : Option ℕ) → differing s stored ≡ other → ⊥
      by None agrees = ends-logs rules are stored have agrees
      by (Some number) differs = none _ None (answers_differs rules stored {number = number} are have differs)

  -- the database by these rules
  ends-rules : (rules : List Rule) → RulesAreTold s.browsers_file files rules → ⊥
  ends-rules rules are = by (uses_database s) refl
    where
      says : uses_database s ≡ true → (reading : Reading) → DbOf sides reading → ⊥
      says uses (reads_as stored) db = ends-stored rules are stored (inl (uses, db))
      says uses (damaged side at) db = none _ None (answers_damage rules are uses db)

      by : (uses : Bool) → uses_database s ≡ uses → ⊥
      by true uses = laws.database sides (says uses)
      by false unused = ends-stored rules are empty_db (inr (unused, refl))

  pub some-answer : ⊥
  some-answer = by s.browsers_file refl
    where
      by : (file : Option (List ℕ)) → s.browsers_file ≡ file → ⊥
      by None is = ends-rules [] (subst (λ (file : Option (List ℕ)). RulesAreTold file files []) (sym is) refl)
      by (Some name) is = by-text (told name files.contents) refl
        where
          there : told name files.contents ≢ None
          there = (subst (λ (file : Option (List ℕ)). AreThere files (rules_file file ++ s.logs)) is all).0

          by-text : (text : Option (List ℕ)) → told name files.contents ≡ text → ⊥
          by-text None absent = there absent
          by-text (Some text) has = read (laws.reading text)
            where
              read : IsAnswered text → ⊥
              read (inl (rules, gives)) = ends-rules rules (subst (λ (file : Option (List ℕ)). RulesAreTold file files rules) (sym is) (text, has, gives))
              read (inr (at, bad)) = none _ None (answers_rules (record { name = name; named = is; text = text; told = has; bad = bad }))
