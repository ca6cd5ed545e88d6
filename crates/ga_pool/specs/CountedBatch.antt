-- What is counted of the lines of a batch.
use Rattle.std.specs.Prelude.{◌≡◌, ℕ, List, None}
use Rattle.ga_base.specs.declared.counts.Totals.{Totals}
use Rattle.ga_pool.specs.Stands.{StandsFor}
use Rattle.ga_pool.specs.declared.counted.Counted.{Counted}
use Rattle.ga_summary.specs.Limits.{over}
use Rattle.ga_summary.specs.Outcomes.{Outcome}
use Rattle.ga_summary.specs.SummaryRows.{SummaryValue}
use Rattle.ga_summary.specs.Sound.{AllCountable, IsSummary}
use Rattle.ga_summary.specs.Sums.{IsSumOf}
use Rattle.ga_outcomes.specs.LineOutcomes.{HaveOutcomes}
use Rattle.ga_outcomes.specs.declared.setup.Setup.{Setup}

-- what was counted represents the sum of these lines, and no counter, from these totals on, passes its limit on the way
pub record CountsBatch (setup : Setup) (before : Totals) (all : List (List ℕ)) (counted : Counted) : Type 0 where
  pub outcomes : List Outcome
  pub have_outcomes : HaveOutcomes setup all outcomes
  pub countable : AllCountable outcomes
  pub fits : over before outcomes ≡ None
  pub sum : SummaryValue
  pub is_sum : IsSumOf outcomes sum
  pub summary : IsSummary sum
  pub stands : StandsFor counted sum

-- what was counted represents the sum of these outcomes
pub record StandsForSum (outcomes : List Outcome) (counted : Counted) : Type 0 where
  pub sum : SummaryValue
  pub is_sum : IsSumOf outcomes sum
  pub summary : IsSummary sum
  pub stands : StandsFor counted sum
