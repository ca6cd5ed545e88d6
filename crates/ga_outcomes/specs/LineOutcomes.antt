-- The outcomes of the lines of a log, and their sum.
use Rattle.std.specs.Prelude.{◌≡◌, ◌⊎◌, ℕ, List, [], ◌∷◌, ◌++◌, Option, Some, None}
use Rattle.ga_base.specs.declared.counts.Counter.{Counter}
use Rattle.ga_base.specs.declared.counts.Totals.{Totals}
use Rattle.ga_base.specs.declared.key.Key.{Key}
use Rattle.ga_base.specs.declared.record.Line.{Line}
use Rattle.ga_base.specs.declared.record.Line.TheVariants.{Skipped, Failed, Good}
use Rattle.ga_line.specs.Records.{IsLineOf}
use Rattle.ga_outcomes.specs.declared.setup.Setup.{Setup}
use Rattle.ga_panels.specs.Table.{AreKeysOf}
use Rattle.ga_panels.specs.Visitors.{IsExcluded, visitor_in}
use Rattle.ga_panels.specs.declared.setup.PanelSetup.{PanelSetup}
use Rattle.ga_summary.specs.Limits.{over}
use Rattle.ga_summary.specs.Outcomes.{Outcome, Counted, hit_of}
use Rattle.ga_summary.specs.Outcomes as outcomes
use Rattle.ga_summary.specs.SummaryRows.{SummaryValue}
use Rattle.ga_summary.specs.Sums.{IsSumOf}

-- the outcome of a line that says this: none where it is passed over; a record that isn't excluded is counted under its
-- keys, for its visitor
abbrev pub IsOutcomeOf : PanelSetup → Line → Option Outcome → Type 0
IsOutcomeOf panels Skipped outcome = outcome ≡ None
IsOutcomeOf panels Failed outcome = outcome ≡ Some outcomes.Failed
IsOutcomeOf panels (Good rec) outcome =
    (IsExcluded panels rec × (outcome ≡ Some outcomes.Excluded))
    ⊎ (¬ IsExcluded panels rec
    × ((keys : List Key) × AreKeysOf panels rec keys × (outcome ≡ Some (Counted (hit_of keys (visitor_in panels rec) rec)))))

-- the outcome of a line, read and counted with this setup
abbrev pub HasOutcome : Setup → List ℕ → Option Outcome → Type 0
HasOutcome setup line outcome = (said : Line) × IsLineOf setup.line line said × IsOutcomeOf setup.panels said outcome

-- an outcome, or none, before others
abbrev pub listed : Option Outcome → List Outcome → List Outcome
listed None more = more
listed (Some outcome) more = outcome ∷ more

-- these lines have these outcomes, in their order
abbrev pub HaveOutcomes : Setup → List (List ℕ) → List Outcome → Type 0
HaveOutcomes setup [] outcomes = outcomes ≡ []
HaveOutcomes setup (line ∷ more) outcomes = (first : Option Outcome) × (rest : List Outcome)
    × HasOutcome setup line first × HaveOutcomes setup more rest × (outcomes ≡ listed first rest)

-- the summary is the sum of all these lines, and no counter, from these totals on, passes its limit on the way
pub record CountsLines (setup : Setup) (start : Totals) (all : List (List ℕ)) (sum : SummaryValue) : Type 0 where
  pub outcomes : List Outcome
  pub have_outcomes : HaveOutcomes setup all outcomes
  pub is_sum : IsSumOf outcomes sum
  pub fits : over start outcomes ≡ None

-- these lines, up to one of them, fill a counter that began at these totals, which would have this value
pub record FillsAmong (setup : Setup) (start : Totals) (all : List (List ℕ)) (which : Counter) (total : ℕ) : Type 0 where
  pub front : List (List ℕ)
  pub back : List (List ℕ)
  pub split : all ≡ front ++ back
  pub outcomes : List Outcome
  pub have_outcomes : HaveOutcomes setup front outcomes
  pub full : over start outcomes ≡ Some (which, total)
