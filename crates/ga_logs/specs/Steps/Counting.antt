-- What the workers have counted at any moment.
use Rattle.std.specs.Prelude.{List}
use Rattle.ga_base.specs.declared.counts.Totals.{Totals}
use Rattle.ga_logs.specs.Counting.{AreTallied}
use Rattle.ga_summary.specs.Outcomes.{Outcome}
use Rattle.ga_tallies.specs.Tallies.{TallySeen}

-- what the workers have counted are some outcomes
pub record AreSome (start : Totals) (tallies : List TallySeen) : Type 0 where
  pub outcomes : List Outcome
  pub tallied : AreTallied start outcomes tallies
