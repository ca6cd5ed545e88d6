use Rattle.std.proofs.Common.{◌≡◌, length}
use Rattle.ga_summary.specs.SummaryParts.{rows_in}
use Rattle.ga_codec.specs.Steps.Pieces.{MoreRows}
use Rattle.ga_codec.proofs.cursor.Cursor.read_more_rows.Given as goal

abbrev pub invariant-loop : goal.invariant-loop
invariant-loop l = record {
  number : length l.rows.items ≡ l.counter;
  rows : MoreRows l.count (rows_in l.initial.rows.items) (rows_in l.rows.items) l.initial.self l.self;
}
