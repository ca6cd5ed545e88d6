-- The sum of a list of outcomes, and two summaries merged, by what is found at each key.
use Rattle.std.specs.Prelude.{◌≡◌, ◌||◌, List, nat_lt, is_some}
use Rattle.ga_base.specs.declared.key.Key.{Key}
use Rattle.ga_base.specs.declared.key.Visitor.{Visitor}
use Rattle.ga_summary.specs.Outcomes.{Outcome, sums_of, has_visit, totals_of}
use Rattle.ga_summary.specs.SummaryRows.{SummaryValue, IsInOrder, row_at, sums_at, has_pair, sums_plus}
use Rattle.ga_base.specs.Totals.{totals_plus}

-- s is the sum of the outcomes, and nothing else is: rows in order are known by what is found in them
pub record IsSumOf (outcomes : List Outcome) (s : SummaryValue) : Type 0 where
  pub totals : s.totals ≡ totals_of outcomes
  pub sums : (key : Key) → sums_at s.rows key ≡ sums_of key outcomes
  pub pairs : (key : Key) (visitor : Visitor) → has_pair s.rows key visitor ≡ has_visit key visitor outcomes
  -- a key has a row exactly where a counted line has it
  pub present : (key : Key) → is_some (row_at s.rows key) ≡ nat_lt 0 (sums_of key outcomes).hits
  pub ordered : IsInOrder s.rows

-- s is a and b together: sums and totals added, maxima the greater, visitors united
pub record IsMerged (a b s : SummaryValue) : Type 0 where
  pub totals : s.totals ≡ totals_plus a.totals b.totals
  pub sums : (key : Key) → sums_at s.rows key ≡ sums_plus (sums_at a.rows key) (sums_at b.rows key)
  pub pairs : (key : Key) (visitor : Visitor) → has_pair s.rows key visitor ≡ (has_pair a.rows key visitor || has_pair b.rows key visitor)
  -- it has the rows of both
  pub present : (key : Key) → is_some (row_at s.rows key) ≡ (is_some (row_at a.rows key) || is_some (row_at b.rows key))
  pub ordered : IsInOrder s.rows
