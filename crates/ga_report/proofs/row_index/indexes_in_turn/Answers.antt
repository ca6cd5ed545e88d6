use Rattle.std.proofs.Common.{◌≡◌, ◌∙◌, ◌++◌, ◌∷◌, [], Some, ap, get_or, sym}
use Rattle.std.specs.Prelude.{option_map}
use Rattle.ga_report.specs.Steps.RowPlaces.{label_hash, index_at}
use Rattle.ga_report.proofs.Found.{found-more}
use Rattle.ga_report.proofs.row_index.indexes_in_turn.Goals as goal
use Rattle.ga_shards.specs.Keys.{text_hash}

pub loop-place-preserved : goal.loop-place-preserved
loop-place-preserved g c =
    let rows = (g.T.RowSource.view c.args.source.now).rows in
    let place = get_or c.args.places.now c.loop-place.place-index 0 in
    let hash : c.text_hash-hash.result ≡ label_hash c.row.result = c.text_hash-hash.ensures ∙ ap text_hash (c.bytes.ensures.value ∙ c.label.ensures) in
    let there : index_at rows place ≡ Some (record { place = place; hash = c.text_hash-hash.result }) =
    ap (option_map (λ row. record { place = place; hash = label_hash row })) c.row.ensures ∙ (λ i. Some (record { place = place; hash = sym hash i })) in
    c.in_ok-push.ensures.items ∙ (λ i. c.loop-place.invariant i ++ record { place = place; hash = c.text_hash-hash.result } ∷ [])
    ∙ sym (found-more (index_at rows) c.args.places.now c.loop-place.place-index 0 _ c.loop-place-test.true there)
