use Rattle.std.proofs.Common.{◌≡◌, filter, take}
use Rattle.ga_report.specs.Items.{order}
use Rattle.ga_report.specs.Steps.RowPlaces.{rows_at}
use Rattle.ga_report.specs.Steps.Summed.{is_up_to}
use Rattle.ga_report.proofs.row_index.rows_near_in_turn.Given as goal

abbrev pub invariant-loop-row_index : goal.invariant-loop-row_index
invariant-loop-row_index g l = l.rows.items ≡ filter (is_up_to (order l.panel) l.threshold) (rows_at (g.T.RowSource.view l.source).rows (take l.row_index-index l.indexes))
