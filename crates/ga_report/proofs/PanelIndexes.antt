-- Row indexes, and row indexes that are split by their hashes.
use Rattle.std.proofs.Common.{◌≡◌, ◌⊎◌, ℕ, ◌+◌, ◌<◌, ◌≤◌, ◌==◌, Bool, true, false, List, [], ◌∷◌, ◌++◌, inl, inr, Some, length, get_or, map, filter, take, take_all, refl, sym, ap, ◌∙◌, subst, arith, All}
use Rattle.std.specs.Prelude.{not, option_map, slice_get}
use Rattle.std.specs.List.{AllByRecursion, filter_map}
use Rattle.std.proofs.lemmas.Bool.Decides.{Decides-eqb}
use Rattle.std.proofs.lemmas.List.{map-append}
use Rattle.std.proofs.lemmas.List.Elements.{All-from_recursion}
use Rattle.std.proofs.lemmas.Option.{slice_get-map, slice_get-get_or, slice_get_within}
use Rattle.ga_report.specs.declared.row_index.RowIndex.{RowIndex}
use Rattle.ga_report.specs.Steps.Alone.{IsPartition}
use Rattle.ga_report.specs.Steps.RowPlaces.{AreAt, AreIndexes, label_hash, row_at, rows_at, index_at}
use Rattle.ga_report.specs.Source.{SourceRow}
use Rattle.ga_report.proofs.Found.{found, found-at, found-behind, found-long}
use Rattle.ga_report.proofs.Lists.{filter-pass, filter-push, take-more}

-- numbers that differ, by a test
pub differs : (a b : ℕ) → (a ≡ b → ⊥) → (a == b) ≡ false
differs a b apart = elim (a == b) as (λ v. (a == b) ≡ v → v ≡ false) [
  | true ↦ λ e. absurd (apart ((Decides-eqb a b).0 e))
  | false ↦ λ e. refl
] refl

module _ (rows : List SourceRow) where
  -- the row indexes of places where rows stand
  pub are-indexes : (places : List ℕ) (those : List SourceRow) → AreAt rows places those → AreIndexes rows (filter_map (index_at rows) places) those
  are-indexes [] [] e = record { at = refl; hashes = refl }
  are-indexes [] (x ∷ xs) e = cc
  are-indexes (p ∷ ps) [] e = cc
  are-indexes (p ∷ ps) (x ∷ xs) e =
      let first : slice_get rows p ≡ Some x = cc e in
      let rest : AreAt rows ps xs = cc e in
      let more = are-indexes ps xs rest in
      rw first (record {
        at = λ i. first i ∷ more.at i;
        hashes = λ i. label_hash x ∷ more.hashes i;
      })

  inside : (indexes : List RowIndex) (those : List SourceRow) → map (row_at rows) indexes ≡ map Some those → AllByRecursion (λ row_index. row_index.place < length rows) indexes
  inside [] those e = tt
  inside (s ∷ ss) [] e = cc
  inside (s ∷ ss) (x ∷ xs) e =
      let first : slice_get rows s.place ≡ Some x = cc e in
      let rest : map (row_at rows) ss ≡ map Some xs = cc e in
      (slice_get_within rows s.place x first, inside ss xs rest)

  pub indexes-inside : (indexes : List RowIndex) (those : List SourceRow) → AreIndexes rows indexes those → All (λ row_index. row_index.place < length rows) indexes
  indexes-inside indexes those are = All-from_recursion (λ row_index. row_index.place < length rows) indexes (inside indexes those are.at)

  pub indexes-rows : (indexes : List RowIndex) (those : List SourceRow) → AreIndexes rows indexes those → rows_at rows indexes ≡ those
  indexes-rows indexes those are = found (row_at rows) indexes those are.at

  -- a row index more
  row_index-behind : (indexes indexes' : List RowIndex) (those : List SourceRow) (row_index : RowIndex) (row : SourceRow) → AreIndexes rows indexes those → row_at rows row_index ≡ Some row → row_index.hash ≡ label_hash row
      → indexes' ≡ indexes ++ row_index ∷ [] → AreIndexes rows indexes' (those ++ row ∷ [])
  row_index-behind indexes indexes' those row_index row are there hash e = record {
    at = found-behind (row_at rows) indexes indexes' those row_index row are.at there e;
    hashes =
        ap (map (λ (s : RowIndex). s.hash)) e ∙ map-append (λ (s : RowIndex). s.hash) indexes (row_index ∷ [])
        ∙ (λ i. are.hashes i ++ hash i ∷ []) ∙ sym (map-append label_hash those (row ∷ []));
  }

  module _ (passes : ℕ → Bool) (indexes : List RowIndex) (those : List SourceRow) (are : AreIndexes rows indexes those) where
    -- where a row index more is put
    abbrev pub IsPut : RowIndex → List RowIndex → List RowIndex → List RowIndex → List RowIndex → Type 0
    IsPut row_index some others some' others' =
        ((passes row_index.hash ≡ true) × (some' ≡ some ++ row_index ∷ []) × (others' ≡ others))
        ⊎ ((passes row_index.hash ≡ false) × (some' ≡ some) × (others' ≡ others ++ row_index ∷ []))

    pub partition-more : (n : ℕ) (d : RowIndex) → n < length indexes → (some others some' others' : List RowIndex) → IsPut (get_or indexes n d) some others some' others'
        → IsPartition rows passes (take n those) some others → IsPartition rows passes (take (n + 1) those) some' others'
    partition-more n d less some others some' others' put partition =
        let there = found-at (row_at rows) indexes those n d are.at less in
        placed there.0 there.1 there.2 (hash-at there.0 there.2) put
      where
        row_index : RowIndex
        row_index = get_or indexes n d

        hash-at : (row : SourceRow) → slice_get those n ≡ Some row → row_index.hash ≡ label_hash row
        hash-at row here =
            let mine : slice_get (map (λ (s : RowIndex). s.hash) indexes) n ≡ Some row_index.hash =
            slice_get-map (λ (s : RowIndex). s.hash) indexes n ∙ ap (option_map (λ (s : RowIndex). s.hash)) (slice_get-get_or indexes n d less) in
            let theirs : slice_get (map label_hash those) n ≡ Some (label_hash row) = slice_get-map label_hash those n ∙ ap (option_map label_hash) here in
            let same : Some row_index.hash ≡ Some (label_hash row) = sym mine ∙ ap (λ (xs : List ℕ). slice_get xs n) are.hashes ∙ theirs in
            cc same

        placed : (row : SourceRow) → row_at rows row_index ≡ Some row → slice_get those n ≡ Some row → row_index.hash ≡ label_hash row → IsPut row_index some others some' others'
            → IsPartition rows passes (take (n + 1) those) some' others'
        placed row there here hash (inl (own, more, same)) =
            let e : passes (label_hash row) ≡ true = ap passes (sym hash) ∙ own in
            subst (λ (xs : List SourceRow). IsPartition rows passes xs some' others') (sym (take-more n those row here)) (record {
              passing = subst (AreIndexes rows some') (sym (filter-push (λ r. passes (label_hash r)) (take n those) row e))
                  (row_index-behind some some' _ row_index row partition.passing there hash more);
              failing = subst (AreIndexes rows others') (sym (filter-pass (λ r. not (passes (label_hash r))) (take n those) row (ap not e)))
                  (subst (λ (xs : List RowIndex). AreIndexes rows xs (filter (λ r. not (passes (label_hash r))) (take n those))) (sym same) partition.failing);
            })
        placed row there here hash (inr (other, same, more)) =
            let e : passes (label_hash row) ≡ false = ap passes (sym hash) ∙ other in
            subst (λ (xs : List SourceRow). IsPartition rows passes xs some' others') (sym (take-more n those row here)) (record {
              passing = subst (AreIndexes rows some') (sym (filter-pass (λ r. passes (label_hash r)) (take n those) row e))
                  (subst (λ (xs : List RowIndex). AreIndexes rows xs (filter (λ r. passes (label_hash r)) (take n those))) (sym same) partition.passing);
              failing = subst (AreIndexes rows others') (sym (filter-push (λ r. not (passes (label_hash r))) (take n those) row (ap not e)))
                  (row_index-behind others others' _ row_index row partition.failing there hash more);
            })

    -- none is left
    pub partition-all : (n : ℕ) (some others : List RowIndex) → length indexes ≤ n → IsPartition rows passes (take n those) some others → IsPartition rows passes those some others
    partition-all n some others end partition =
        subst (λ (xs : List SourceRow). IsPartition rows passes xs some others) (take_all n those (omega (arith, end, found-long (row_at rows) indexes those are.at))) partition

-- of none
pub partition-none : (rows : List SourceRow) (passes : ℕ → Bool) (those : List SourceRow) (some others : List RowIndex) → some ≡ [] → others ≡ [] → IsPartition rows passes (take 0 those) some others
partition-none rows passes those some others e f =
    rw (e, f) (record { passing = record { at = refl; hashes = refl }; failing = record { at = refl; hashes = refl } })
