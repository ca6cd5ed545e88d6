-- Rows that stand at places of shards, one more of them.
use Rattle.std.proofs.Common.{◌≡◌, ℕ, zero, suc, ◌+◌, ◌<◌, List, [], ◌∷◌, ◌++◌, length, length-append, get_or, map, take, Some, refl, sym, ap, ◌∙◌, subst, arith}
use Rattle.std.specs.Prelude.{slice_get}
use Rattle.std.specs.List.{All}
use Rattle.std.proofs.lemmas.Option.{get_or_from_slice_get, slice_get_within}
use Rattle.std.proofs.lemmas.List.{get_or-map, length-map, map_push, take_more}
use Rattle.std.proofs.Math.Seq.{get_or-append_seam}
use Rattle.ga_numbers.specs.Steps.Kept.{IsRowAt, StandEach, merged_place, merged_places, row_at, rows_in}
use Rattle.ga_numbers.specs.declared.place.Place.{Place}
use Rattle.ga_numbers.specs.declared.shard_row.ShardRow.{ShardRow}

module _ (shards : List (List ShardRow)) (local_maps : List (List (List ℕ))) (which : ℕ) (order : List Place) (i : ℕ) (p : Place) (within : i < length order) (is : p ≡ get_or order i p) where
  pub rows-more : rows_in shards (map (merged_place local_maps which) (take (i + 1) order)) ≡ rows_in shards (map (merged_place local_maps which) (take i order)) ++ row_at shards (merged_place local_maps which p) ∷ []
  rows-more =
      ap (λ (l : List Place). rows_in shards (map (merged_place local_maps which) l)) (take_more order i p within ∙ ap (λ (q : Place). take i order ++ q ∷ []) (sym is))
      ∙ ap (rows_in shards) (map_push (merged_place local_maps which) (take i order) p)
      ∙ map_push (row_at shards) (map (merged_place local_maps which) (take i order)) (merged_place local_maps which p)

  pub stands-next : All (IsRowAt shards) (map (merged_place local_maps which) order) → IsRowAt shards (merged_place local_maps which p)
  stands-next all =
      subst (IsRowAt shards) (get_or-map (merged_place local_maps which) order i p p within ∙ ap (merged_place local_maps which) (sym is))
      (all i p (omega (arith, within, length-map order (merged_place local_maps which))))

-- a list at its place
pub merged-many : (local_maps : List (List (List ℕ))) (first : ℕ) (orders : List (List Place)) → length (merged_places local_maps first orders) ≡ length orders
merged-many local_maps first [] = refl
merged-many local_maps first (order ∷ orders) = omega (arith, merged-many local_maps (first + 1) orders)

merged-one : (local_maps : List (List (List ℕ))) (first : ℕ) (orders : List (List Place)) (i : ℕ) (d e : List Place) → i < length orders → get_or (merged_places local_maps first orders) i d ≡ map (merged_place local_maps (first + i)) (get_or orders i e)
merged-one local_maps first [] i d e within = absurd (omega (arith, within))
merged-one local_maps first (order ∷ orders) zero d e within = let same : first ≡ first + 0 = omega arith in ap (λ n. map (merged_place local_maps n) order) same
merged-one local_maps first (order ∷ orders) (suc i) d e within =
    let same : first + 1 + i ≡ first + suc i = omega arith in
    merged-one local_maps (first + 1) orders i d e (omega (arith, within)) ∙ ap (λ n. map (merged_place local_maps n) (get_or orders i e)) same

pub merged-here : (local_maps : List (List (List ℕ))) (orders : List (List Place)) (i : ℕ) (d e : List Place) → i < length orders → get_or (merged_places local_maps 0 orders) i d ≡ map (merged_place local_maps i) (get_or orders i e)
merged-here local_maps orders i d e within = let same : 0 + i ≡ i = omega arith in merged-one local_maps 0 orders i d e within ∙ ap (λ n. map (merged_place local_maps n) (get_or orders i e)) same

-- the places of one more of the others
merged-push : (local_maps : List (List (List ℕ))) (first : ℕ) (before : List (List Place)) (order : List Place)
    → merged_places local_maps first (before ++ order ∷ []) ≡ merged_places local_maps first before ++ map (merged_place local_maps (first + length before)) order ∷ []
merged-push local_maps first [] order = let same : first ≡ first + 0 = omega arith in ap (λ n. map (merged_place local_maps n) order ∷ []) same
merged-push local_maps first (o ∷ before) order =
    let same : first + 1 + length before ≡ first + length (o ∷ before) = omega arith in
    ap (λ (l : List (List Place)). map (merged_place local_maps first) o ∷ l)
    (merged-push local_maps (first + 1) before order ∙ ap (λ n. merged_places local_maps (first + 1) before ++ map (merged_place local_maps n) order ∷ []) same)

module _ (shards : List (List ShardRow)) (local_maps : List (List (List ℕ))) (before : List (List Place)) (order : List Place) where
  pub lists-more : map (rows_in shards) (merged_places local_maps 0 (before ++ order ∷ [])) ≡ map (rows_in shards) (merged_places local_maps 0 before) ++ rows_in shards (map (merged_place local_maps (length before)) order) ∷ []
  lists-more =
      let same : 0 + length before ≡ length before = omega arith in
      ap (map (rows_in shards)) (merged-push local_maps 0 before order ∙ ap (λ n. merged_places local_maps 0 before ++ map (merged_place local_maps n) order ∷ []) same)
      ∙ map_push (rows_in shards) (merged_places local_maps 0 before) (map (merged_place local_maps (length before)) order)

  pub list-stands : (rest : List (List Place)) → StandEach shards local_maps (before ++ order ∷ rest) → All (IsRowAt shards) (map (merged_place local_maps (length before)) order)
  list-stands rest all =
      let orders = before ++ order ∷ rest in
      let within : length before < length orders = omega (arith, length-append before (order ∷ rest)) in
      subst (All (IsRowAt shards)) (merged-here local_maps orders (length before) [] [] within ∙ ap (map (merged_place local_maps (length before))) (get_or-append_seam before order rest []))
      (all (length before) [] (omega (arith, within, merged-many local_maps 0 orders)))

-- one item more of a list
pub next-item : {T : Type 0} (self so_far : List T) (n : ℕ) (x : T) → slice_get self n ≡ Some x → so_far ≡ take n self → so_far ++ x ∷ [] ≡ take (n + 1) self
next-item self so_far n x at front =
    let here : x ≡ get_or self n x = sym (get_or_from_slice_get self n x x at) in
    (λ i. front i ++ here i ∷ []) ∙ sym (take_more self n x (slice_get_within self n x at))
