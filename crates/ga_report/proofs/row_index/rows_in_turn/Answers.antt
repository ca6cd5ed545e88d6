use Rattle.std.proofs.Common.{◌∙◌, ◌++◌, ◌∷◌, [], sym}
use Rattle.ga_report.specs.Steps.RowPlaces.{row_at}
use Rattle.ga_report.proofs.Found.{found-more}
use Rattle.ga_report.proofs.row_index.rows_in_turn.Goals as goal

pub loop-row_index-preserved : goal.loop-row_index-preserved
loop-row_index-preserved g c =
    let rows = (g.T.RowSource.view c.args.source.now).rows in
    c.in_ok-push.ensures.items ∙ (λ i. c.loop-row_index.invariant i ++ c.row.result ∷ [])
    ∙ sym (found-more (row_at rows) c.args.indexes.now c.loop-row_index.row_index-index _ c.row.result c.loop-row_index-test.true c.row.ensures)
