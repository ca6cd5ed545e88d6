use Rattle.std.proofs.Common.{◌≡◌, ◌<◌, ◌∙◌, List, ap, filter, length}
use Rattle.std.proofs.lemmas.List.Elements.{filter-append, filter_map-append}
use Rattle.std.proofs.lemmas.Result.{IfOk-weaker}
use Rattle.ga_base.proofs.InPieces.{all-piece, made-as}
use Rattle.ga_report.specs.declared.row_index.RowIndex.{RowIndex}
use Rattle.ga_report.specs.Items.{order}
use Rattle.ga_report.specs.Steps.RowPlaces.{row_at, rows_at}
use Rattle.ga_report.specs.Steps.Summed.{is_up_to}
use Rattle.ga_report.proofs.row_index.rows_near.Goals as goal

pub map_pieces-requires-after_bounds : goal.map_pieces-requires-after_bounds
map_pieces-requires-after_bounds g c κs within = record {
  each = λ piece front back cut. all-piece (λ row_index. row_index.place < length (g.T.RowSource.view c.args.source.now).rows) c.args.indexes.now front piece.now back cut c.requires;
}

pub returns : goal.returns
returns g c =
    let rows = (g.T.RowSource.view c.args.source.now).rows in
    let near = is_up_to (order c.args.panel) c.args.threshold.now in
    let find = λ (indexes : List RowIndex). filter near (rows_at rows indexes) in
    IfOk-weaker c.map_pieces.result _ (λ found. found.items ≡ find c.args.indexes.now)
    (λ found made. made-as _ _ find (λ low high. ap (filter near) (filter_map-append (row_at rows) low high) ∙ filter-append near (rows_at rows low) (rows_at rows high))
    (λ indexes found call. call.says.met ∙ ap find call.shows) made)
    c.map_pieces.ensures
