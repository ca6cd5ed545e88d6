-- What lines weigh, for the limits of the counters.
use Rattle.std.specs.Prelude.{◌≡◌, ◌+◌, ◌≤◌, ℕ, List, [], ◌∷◌, Option, IfSome}
use Rattle.std.specs.Option.{option_map}
use Rattle.ga_base.specs.declared.counts.TheConstants.{BIG, LIMIT}
use Rattle.ga_base.specs.declared.counts.Totals.{Totals}
use Rattle.ga_base.specs.declared.record.Line.{Line}
use Rattle.ga_line.specs.Records.{IsLineOf}
use Rattle.ga_panels.specs.declared.setup.PanelSetup.{PanelSetup}
use Rattle.ga_workers.specs.declared.counter_limits.Weight.{Weight}
use Rattle.ga_summary.specs.Outcomes.{Outcome, totals_of}
use Rattle.ga_outcomes.specs.LineOutcomes.{IsOutcomeOf}
use Rattle.ga_outcomes.specs.declared.setup.Setup.{Setup}

-- what of totals counts for a limit, and totals that have no more than that
abbrev pub weight_in : Totals → Weight
weight_in totals = record { lines = totals.lines; bytes = totals.bytes; micros = totals.micros }

abbrev pub weighed : Weight → Totals
weighed w = record { lines = w.lines; failed = 0; excluded = 0; hits = 0; bytes = w.bytes; micros = w.micros }

abbrev pub weight_plus : Weight → Weight → Weight
weight_plus a b = record { lines = a.lines + b.lines; bytes = a.bytes + b.bytes; micros = a.micros + b.micros }

-- within the limits, and at most that of one line
pub record IsWithin (w : Weight) : Type 0 where
  pub lines : w.lines ≤ LIMIT
  pub bytes : w.bytes ≤ LIMIT
  pub micros : w.micros ≤ LIMIT

pub record IsLight (w : Weight) : Type 0 where
  pub lines : w.lines ≤ 1
  pub bytes : w.bytes ≤ BIG
  pub micros : w.micros ≤ BIG

abbrev pub weight_of : Outcome → Weight
weight_of outcome = weight_in (totals_of (outcome ∷ []))

-- what is said in a line comes to an outcome of this weight, or to none
pub record WeighsSaid (panels : PanelSetup) (said : Line) (answer : Option Weight) : Type 0 where
  pub outcome : Option Outcome
  pub is : IsOutcomeOf panels said outcome
  pub weight : answer ≡ option_map weight_of outcome
  pub light : IfSome answer IsLight

abbrev pub WeighsLine : Setup → List ℕ → Option Weight → Type 0
WeighsLine setup line answer = (said : Line) × IsLineOf setup.line line said × WeighsSaid setup.panels said answer
