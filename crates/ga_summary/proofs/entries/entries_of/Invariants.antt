use Rattle.std.proofs.Common.{◌≡◌, ◌++◌, reverse, vec_len}
use Rattle.ga_summary.specs.SummaryParts.{rows_in}
use Rattle.ga_summary.specs.Steps.Entries.{AllClosed, rows_of}
use Rattle.ga_summary.proofs.entries.entries_of.Given as goal

abbrev pub invariant-loop-row : goal.invariant-loop-row
invariant-loop-row l = record {
  done : rows_in l.rows.items ++ reverse (rows_of l.entries.items) ≡ rows_in l.fn.rows.items;
  closed : AllClosed l.entries.items;
}

abbrev pub decreases-loop-row : goal.decreases-loop-row
decreases-loop-row l = vec_len l.rows
