-- What one more line does to a tally.
use Rattle.std.specs.Prelude.{ℕ, List, [], ◌∷◌, ◌++◌, Option, Some}
use Rattle.ga_base.specs.declared.record.Line.{Line}
use Rattle.ga_line.specs.Records.{IsLineOf}
use Rattle.ga_panels.specs.Known.{record_of, setup_of}
use Rattle.ga_panels.specs.Visitors.{visitor_in}
use Rattle.ga_panels.specs.declared.record_facts.RecordFacts.{RecordFacts}
use Rattle.ga_panels.specs.declared.setup.PanelSetup.{PanelSetup}
use Rattle.ga_summary.specs.Outcomes.{Hit, Outcome, hit_of, totals_of}
use Rattle.ga_summary.specs.Sound.{AllCountable}
use Rattle.ga_base.specs.Totals.{TotalsFit}
use Rattle.ga_outcomes.specs.LineOutcomes.{IsOutcomeOf, listed}
use Rattle.ga_tallies.specs.Steps.Notes.{keys_told}
use Rattle.ga_tallies.specs.Tallies.{IsTallyOf, TallySeen}
use Rattle.ga_outcomes.specs.declared.setup.Setup.{Setup}

-- outcomes were counted after those that the tally was of
abbrev pub Adds : List Outcome → TallySeen → TallySeen → Type 0
Adds outcomes old new = (before : List Outcome) → IsTallyOf before old → IsTallyOf (before ++ outcomes) new

-- the totals with this outcome don't fit, whatever the tally is of
abbrev pub IsTooMuch : Outcome → TallySeen → Type 0
IsTooMuch outcome old = (before : List Outcome) → IsTallyOf before old → ¬ TotalsFit (totals_of (before ++ outcome ∷ []))

-- what a record with these facts counts for
abbrev pub hit_told : RecordFacts → Hit
hit_told facts = hit_of (keys_told facts) (visitor_in (setup_of facts) (record_of facts)) (record_of facts)

-- what a line says was counted
pub record TakesSaid (panels : PanelSetup) (said : Line) (old new : TallySeen) : Type 0 where
  pub outcome : Option Outcome
  pub is : IsOutcomeOf panels said outcome
  pub countable : AllCountable (listed outcome [])
  pub adds : Adds (listed outcome []) old new

-- what a line says is too much
pub record OverfillsSaid (panels : PanelSetup) (said : Line) (old : TallySeen) : Type 0 where
  pub outcome : Outcome
  pub is : IsOutcomeOf panels said (Some outcome)
  pub full : IsTooMuch outcome old

-- one line more was counted, or is too much
abbrev pub TakesLine : Setup → List ℕ → TallySeen → TallySeen → Type 0
TakesLine setup line old new = (said : Line) × IsLineOf setup.line line said × TakesSaid setup.panels said old new

abbrev pub OverfillsLine : Setup → List ℕ → TallySeen → Type 0
OverfillsLine setup line old = (said : Line) × IsLineOf setup.line line said × OverfillsSaid setup.panels said old
