use Rattle.std.proofs.Common.{◌≡◌, take}
use Rattle.ga_summary.specs.SummaryParts.{rows_in}
use Rattle.ga_summary.specs.Sound.{day_rows}
use Rattle.ga_summary.specs.Steps.Loads.{LoadWithin, load_of}
use Rattle.ga_summary.proofs.totals_tests.days_within.Given as goal

abbrev pub invariant-loop-row : goal.invariant-loop-row
invariant-loop-row l = record {
  sum : l.sum ≡ load_of (day_rows (rows_in (take l.row-index l.rows)));
  within : LoadWithin l.sum l.most;
}
