use Rattle.std.proofs.Common.{List, refl, subst}
use Rattle.ga_report.specs.declared.row_index.RowIndex.{RowIndex}
use Rattle.ga_report.specs.Items.{shown_rows}
use Rattle.ga_report.specs.Steps.Alone.{is_alone}
use Rattle.ga_report.specs.Steps.RowPlaces.{rows_at}
use Rattle.ga_report.specs.Steps.Summed.{AreSummed, panel_rows}
use Rattle.ga_report.proofs.Alone.{addable-shown, can-add-others, summed-apart}
use Rattle.ga_report.proofs.PanelIndexes.{indexes-inside}
use Rattle.ga_report.proofs.panel_items.panel_items.Goals as goal

pub sum_items-requires-after_bounds : goal.sum_items-requires-after_bounds
sum_items-requires-after_bounds g c κs within =
    let rows = (g.T.RowSource.view c.args.source.now).rows in
    let apart = c.in_ok-partition.ensures in
    let those = panel_rows c.args.panel (shown_rows c.args.spec rows) in
    rw c.deref.ensures.value (can-add-others rows those (is_alone apart.counts) _ c.in_ok-partition.partition.others.items apart.partition (addable-shown c.args.panel c.args.spec rows c.totals-totals.ensures.sound))

pub returns-clause-there : goal.returns-clause-there
returns-clause-there g c =
    let rows = (g.T.RowSource.view c.args.source.now).rows in
    indexes-inside rows c.in_ok-partition.partition.passing.items _ c.in_ok-partition.ensures.partition.passing

pub returns-clause-items : goal.returns-clause-items
returns-clause-items g c =
    let rows = (g.T.RowSource.view c.args.source.now).rows in
    let partition = c.in_ok-partition.partition in
    let more = subst (λ (xs : List RowIndex). AreSummed (rows_at rows xs) c.in_ok-added.added.items) c.deref.ensures.value c.in_ok-added.ensures in
    summed-apart rows (panel_rows c.args.panel (shown_rows c.args.spec rows)) partition.passing.items partition.others.items (rows_at rows partition.passing.items) c.in_ok-added.added.items _ c.in_ok-partition.ensures refl more refl
