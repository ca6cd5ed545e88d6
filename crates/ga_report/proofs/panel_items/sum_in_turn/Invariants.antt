use Rattle.std.proofs.Common.{◌≡◌, map, take}
use Rattle.ga_report.specs.Items.{undated}
use Rattle.ga_report.specs.Steps.RowPlaces.{rows_at}
use Rattle.ga_report.specs.Steps.Summed.{AreSummed}
use Rattle.ga_report.proofs.panel_items.sum_in_turn.Given as goal

abbrev pub invariant-loop-row_index : goal.invariant-loop-row_index
invariant-loop-row_index g l = (l.names ≡ map (λ item. undated item.key) l.items.items)
    × AreSummed (take l.row_index-index (rows_at (g.T.RowSource.view l.source).rows l.indexes)) l.items.items
