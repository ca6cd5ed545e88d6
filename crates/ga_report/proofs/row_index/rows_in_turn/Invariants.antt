use Rattle.std.proofs.Common.{◌≡◌, take}
use Rattle.ga_report.specs.Steps.RowPlaces.{rows_at}
use Rattle.ga_report.proofs.row_index.rows_in_turn.Given as goal

abbrev pub invariant-loop-row_index : goal.invariant-loop-row_index
invariant-loop-row_index g l = l.rows.items ≡ rows_at (g.T.RowSource.view l.source).rows (take l.row_index-index l.indexes)
