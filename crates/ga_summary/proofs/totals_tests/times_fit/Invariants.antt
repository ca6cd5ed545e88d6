use Rattle.std.proofs.Common.{ℕ, ◌<◌, get_or}
use Rattle.ga_summary.specs.declared.summary_parts.PartRow.{PartRow}
use Rattle.ga_summary.specs.Steps.Loads.{TimeFits}
use Rattle.ga_summary.proofs.totals_tests.times_fit.Given as goal

abbrev pub invariant-loop-row : goal.invariant-loop-row
invariant-loop-row l = (k : ℕ) (d : PartRow) → k < l.row-index → TimeFits (get_or l.rows k d).sums
