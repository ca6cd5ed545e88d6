use Rattle.std.proofs.Common.{ℕ, ◌≤◌, take}
use Rattle.ga_summary.specs.SummaryParts.{RowsAreGood, rows_in}
use Rattle.ga_summary.specs.Steps.Passing.{AreSumsOf}
use Rattle.ga_summary.proofs.first_bad.first_bad_row.Given as goal

abbrev pub invariant-loop-at : goal.invariant-loop-at
invariant-loop-at l = record {
  good : (n : ℕ) → n ≤ l.at → RowsAreGood (rows_in (take n l.rows));
  passed : AreSumsOf (rows_in (take l.at l.rows)) l.sums;
}
