use Rattle.std.proofs.Common.{◌≡◌, ◌<◌, ◌∙◌, ap, length}
use Rattle.std.specs.List.{filter_map}
use Rattle.std.proofs.lemmas.List.Elements.{filter_map-append}
use Rattle.std.proofs.lemmas.Result.{IfOk-weaker}
use Rattle.ga_base.proofs.InPieces.{all-piece, made-as}
use Rattle.ga_report.specs.Steps.RowPlaces.{index_at}
use Rattle.ga_report.proofs.row_index.indexes_at.Goals as goal

pub map_pieces-requires-after_bounds : goal.map_pieces-requires-after_bounds
map_pieces-requires-after_bounds g c κs within = record {
  each = λ piece front back cut. all-piece (λ place. place < length (g.T.RowSource.view c.args.source.now).rows) c.args.places.now front piece.now back cut c.requires;
}

pub returns : goal.returns
returns g c =
    let find = filter_map (index_at (g.T.RowSource.view c.args.source.now).rows) in
    IfOk-weaker c.map_pieces.result _ (λ indexes. indexes.items ≡ find c.args.places.now)
    (λ indexes made. made-as _ _ find (filter_map-append (index_at (g.T.RowSource.view c.args.source.now).rows)) (λ places indexes call. call.says.met ∙ ap find call.shows) made) c.map_pieces.ensures
