use Rattle.std.proofs.Common.{◌≡◌, ◌+◌, ◌<◌, ◌≤◌, ◌∙◌, List, ℕ, ap, get_or, length, map, subst, sym, take, arith}
use Rattle.std.proofs.lemmas.List.{get_or-map, length-map, take_all, with_items_is}
use Rattle.ga_report.specs.declared.row_index.RowIndex.{RowIndex}
use Rattle.ga_report.specs.Steps.Alone.{AreBuckets, bucket_at, noted_bucket}
use Rattle.ga_report.proofs.Bucketed.{marked-more, noted-long}
use Rattle.ga_report.proofs.buckets.Buckets.of.Goals as goal

pub note-requires : goal.note-requires
note-requires c = subst (λ (xs : List ℕ). 1 ≤ length xs) (sym c.deref_mut.ensures.value) c.loop-row_index.invariant.some

pub loop-row_index-preserved : goal.loop-row_index-preserved
loop-row_index-preserved c =
    let indexes = c.args.indexes.now in
    let index = c.loop-row_index.row_index-index in
    let counts = c.loop-row_index.counts.items in
    let hash = (get_or indexes index (record { place = 0; hash = 0 })).hash in
    let bucket = bucket_at (length counts) hash in
    let is : c.note.new.counts ≡ noted_bucket counts bucket =
    c.note.ensures ∙ ap (λ (xs : List ℕ). noted_bucket xs (bucket_at (length xs) hash)) c.deref_mut.ensures.value in
    let long : length c.note.new.counts ≡ c.loop-row_index.counts.len = omega (arith, ap length is, noted-long counts bucket, c.loop-row_index.counts.ok) in
    let counted = with_items_is c.loop-row_index.counts c.note.new.counts long ∙ is in
    let less : index < length (map (λ (row_index : RowIndex). row_index.hash) indexes) = omega (arith, c.loop-row_index-test.true, length-map indexes (λ (row_index : RowIndex). row_index.hash)) in
    subst (λ (xs : List ℕ). AreBuckets (take (index + 1) (map (λ (row_index : RowIndex). row_index.hash) indexes)) xs) (sym counted)
    (marked-more (map (λ (row_index : RowIndex). row_index.hash) indexes) counts index hash (get_or-map (λ (row_index : RowIndex). row_index.hash) indexes index (record { place = 0; hash = 0 }) 0 c.loop-row_index-test.true) less c.loop-row_index.invariant)

pub returns : goal.returns
returns c =
    let hashes = map (λ (row_index : RowIndex). row_index.hash) c.args.indexes.now in
    subst (λ (xs : List ℕ). AreBuckets xs c.loop-row_index.counts.items)
    (take_all c.loop-row_index.row_index-index hashes (omega (arith, c.loop-row_index-test.false, length-map c.args.indexes.now (λ (row_index : RowIndex). row_index.hash)))) c.loop-row_index.invariant

pub invariant_of-result : goal.invariant_of-result
invariant_of-result c = c.loop-row_index.invariant.some
