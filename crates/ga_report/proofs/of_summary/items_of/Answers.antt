use Rattle.std.proofs.Common.{List, subst, sym, ◌∙◌, ap}
use Rattle.std.specs.List.{filter_map}
use Rattle.std.proofs.lemmas.Result.{IfOk-weaker}
use Rattle.ga_report.specs.declared.row_index.RowIndex.{RowIndex}
use Rattle.ga_report.specs.Items.{shown_rows}
use Rattle.ga_report.specs.OfSummary.{source_value}
use Rattle.ga_report.specs.Steps.RowPlaces.{rows_at, index_at}
use Rattle.ga_report.specs.Steps.Summed.{AreSummed, CanAddUp, panel_rows}
use Rattle.ga_report.proofs.Alone.{addable-shown, can-add-at, summed-at}
use Rattle.ga_report.proofs.PanelPlaces.{all-inside}
use Rattle.ga_report.proofs.of_summary.items_of.Goals as goal

pub indexes_in_turn-requires : goal.indexes_in_turn-requires
indexes_in_turn-requires c =
    let rows = (source_value c.args.summary.now).rows in
    rw c.deref.ensures.value (all-inside rows c.in_ok-places.places.items (panel_rows c.args.panel (shown_rows c.args.spec rows)) c.in_ok-places.ensures)

pub sum_in_turn-requires : goal.sum_in_turn-requires
sum_in_turn-requires c =
    let rows = (source_value c.args.summary.now).rows in
    let is = c.deref-2.ensures.value ∙ c.in_ok-indexes.ensures ∙ ap (filter_map (index_at rows)) c.deref.ensures.value in
    subst (CanAddUp rows) (sym is) (can-add-at rows (panel_rows c.args.panel (shown_rows c.args.spec rows)) c.in_ok-places.places.items (addable-shown c.args.panel c.args.spec rows c.totals-totals.ensures.sound) c.in_ok-places.ensures)

pub returns : goal.returns
returns c =
    let rows = (source_value c.args.summary.now).rows in
    let those = panel_rows c.args.panel (shown_rows c.args.spec rows) in
    let is = c.deref-2.ensures.value ∙ c.in_ok-indexes.ensures ∙ ap (filter_map (index_at rows)) c.deref.ensures.value in
    IfOk-weaker c.sum_in_turn.result (λ items. AreSummed (rows_at rows c.deref-2.result.now) items.items) (λ items. AreSummed those items.items)
    (λ items summed. summed-at rows those c.in_ok-places.places.items items.items c.in_ok-places.ensures (subst (λ (indexes : List RowIndex). AreSummed (rows_at rows indexes) items.items) is summed)) c.sum_in_turn.ensures
