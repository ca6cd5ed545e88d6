use Rattle.std.proofs.Common.{◌∙◌, ◌++◌, ◌∷◌, [], ap, filter, sym, take}
use Rattle.std.specs.Prelude.{not}
use Rattle.ga_report.specs.Items.{order}
use Rattle.ga_report.specs.Steps.RowPlaces.{row_at, rows_at}
use Rattle.ga_report.specs.Steps.Summed.{is_up_to}
use Rattle.ga_report.proofs.Found.{found-more}
use Rattle.ga_report.proofs.Lists.{filter-pass, filter-push}
use Rattle.ga_report.proofs.row_index.rows_near_in_turn.Goals as goal
use Rattle.ga_report.proofs.row_index.rows_near_in_turn.Goals.{then-not-is_behind+in_ok-push, else-not-is_behind}

pub loop-row_index-preserved : goal.loop-row_index-preserved
loop-row_index-preserved g c =
    let rows = (g.T.RowSource.view c.args.source.now).rows in
    let near = is_up_to (order c.args.panel) c.args.threshold.now in
    let row = c.row-row.result in
    let seen = rows_at rows (take c.loop-row_index.row_index-index c.args.indexes.now) in
    let more = ap (filter near) (found-more (row_at rows) c.args.indexes.now c.loop-row_index.row_index-index _ row c.loop-row_index-test.true c.row-row.ensures) in
    elim c.if-not-is_behind.branch [
      | then-not-is_behind+in_ok-push w ↦
          rw w.rows-is (w.in_ok-push.ensures.items ∙ (λ i. c.loop-row_index.invariant i ++ row ∷ [])
          ∙ sym (more ∙ filter-push near seen row (c.is_behind.ensures ∙ ap not w.if-not-is_behind.true)))
      | else-not-is_behind w ↦
          rw w.rows-is (c.loop-row_index.invariant ∙ sym (more ∙ filter-pass near seen row (c.is_behind.ensures ∙ ap not w.if-not-is_behind.false)))
    ]
