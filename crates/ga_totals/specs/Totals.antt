-- What a total is seen as, when a summary may be made of it, and what it is as a source of rows.
use Rattle.std.specs.Prelude.{List}
use Rattle.ga_report.specs.OfSummary.{source_value}
use Rattle.ga_report.specs.Source.{SameSource, SourceValue}
use Rattle.ga_summary.specs.Outcomes.{Outcome}
use Rattle.ga_summary.specs.SummaryRows.{SummaryValue}
use Rattle.ga_summary.specs.Sound.{AllCountable, IsSummary}
use Rattle.ga_summary.specs.Sums.{IsSumOf}
use Rattle.ga_tallies.specs.Tallies.{IsTallyOf, TallySeen}

-- a tally of outcomes that may be counted
pub record IsOfCountable (t : TallySeen) : Type 0 where
  pub outcomes : List Outcome
  pub tally : IsTallyOf outcomes t
  pub countable : AllCountable outcomes

-- the source is that of a summary of these outcomes, with the rows in any order
pub record IsSourceOfSum (outcomes : List Outcome) (source : SourceValue) : Type 0 where
  pub sum : SummaryValue
  pub is_sum : IsSumOf outcomes sum
  pub is_summary : IsSummary sum
  pub same : SameSource source (source_value sum)
