-- Merged shards: the rows of others are in them.
use Rattle.std.proofs.Common.{◌≡◌, ℕ, zero, suc, ◌<◌, ◌≤◌, List, [], ◌∷◌, length, get_or, map, Some, Result, Ok, Err, IfOk, refl, sym, ap, ◌∙◌, subst, arith, ⊎_elim}
use Rattle.std.specs.Prelude.{OnErr, slice_get}
use Rattle.std.specs.Hash.FoldHasher as hashes
use Rattle.std.specs.List.{All, AllZip, flat_map}
use Rattle.std.proofs.lemmas.Bool.{cases_lt}
use Rattle.std.proofs.lemmas.Nat.{mod_below}
use Rattle.std.proofs.lemmas.List.{ext_get_or, get_or-map, length-map}
use Rattle.std.proofs.lemmas.List.Elements.{All-nil}
use Rattle.std.proofs.lemmas.Option.{slice_get-get_or}
use Rattle.ga_shards.specs.Steps.{all_noted}
use Rattle.ga_numbers.specs.Steps.Kept.{AreOpened, AreShards, Grows, MergesShards, IsRowAt, StandEach, StandsAt, merged_place, merged_places, no_row, row_at, rows_in, shards_at}
use Rattle.ga_numbers.specs.NotedNumbers.{AreNotedInTurn, all_in_turn, numbers_in_turn}
use Rattle.ga_numbers.specs.Steps.ShardRows.{is_same_row, remapped_by, remapped_each, shard_at}
use Rattle.ga_numbers.specs.Steps.Three.{AllThree}
use Rattle.ga_numbers.specs.declared.place.Place.{Place}
use Rattle.ga_numbers.specs.declared.shard_row.ShardRow.{ShardRow}
use Rattle.ga_numbers.proofs.Prefixed.{get-mapped}
use Rattle.ga_numbers.proofs.Giving.{merged-here, merged-many}
use Rattle.ga_numbers.proofs.InTurn.{flat-in-turn, placed-in-turn}
use Rattle.ga_numbers.proofs.Keeping.{is-there, noted-grows, noted-shards, row-is, row-there}
use Rattle.ga_numbers.proofs.ShardMerges.{at-zip, element, zip-long}
use Rattle.ga_numbers.proofs.Remapping.{Own, remapped-at, remapped-many, remapped-own}
use Rattle.ga_numbers.proofs.Same.{same-row}

-- two facts of an answer make a third
pub both-ok : {A E : Type 0} (r : Result A E) (P Q R : A → Type 0) → ((x : A) → P x → Q x → R x) → IfOk r P → IfOk r Q → IfOk r R
both-ok (Ok x) P Q R f p q = f x p q
both-ok (Err e) P Q R f p q = tt

-- what holds in any case holds after an error
pub on-err : {A E P : Type 0} (r : Result A E) → P → OnErr r P
on-err (Ok x) p = tt
on-err (Err e) p = p

pub on-err-so : {A E P Q : Type 0} (r : Result A E) → (P → Q) → OnErr r P → OnErr r Q
on-err-so (Ok x) f p = tt
on-err-so (Err e) f p = f p

-- what came of each of the merges, shard by shard
module _ {M G : Type 0} (prefixes : List (List ℕ)) (known : M → List ShardRow) (more : M → List (List ShardRow)) (extended : G → List ShardRow) (local_maps : G → List (List ℕ)) (merges : List M) (all : List G)
    (zipped : AllZip (λ m g. AreNotedInTurn is_same_row (remapped_each prefixes (more m)) (local_maps g) (known m) (extended g)) merges all)
    (shards : List (List ShardRow)) (others : List (List (List ShardRow))) (shards-are : map known merges ≡ shards)
    (others-are : (s : ℕ) → s < length shards → get_or (map more merges) s [] ≡ shards_at s others) where
  abbrev Merges : M → G → Type 0
  Merges m g = AreNotedInTurn is_same_row (remapped_each prefixes (more m)) (local_maps g) (known m) (extended g)

  merged-each : (s : ℕ) → s < length shards
      → AreNotedInTurn is_same_row (remapped_each prefixes (shards_at s others)) (get_or (map local_maps all) s []) (get_or shards s []) (get_or (map extended all) s [])
  merged-each s within = record {
    places = l ∙ noted.places ∙ (λ i. numbers_in_turn is_same_row (k i) (remapped_each prefixes (o i)));
    known = n ∙ noted.known ∙ (λ i. all_in_turn is_same_row (k i) (remapped_each prefixes (o i)));
  }
    where
      inside : s < length merges
      inside = omega (arith, within, ap length shards-are, length-map merges known)

      in-all : s < length all
      in-all = omega (arith, inside, zip-long Merges merges all zipped)

      m : (x : M) × ((d : M) → get_or merges s d ≡ x)
      m = element merges s inside

      g : (x : G) × ((d : G) → get_or all s d ≡ x)
      g = element all s in-all

      noted : Merges m.0 g.0
      noted = subst (λ (x : M). Merges x g.0) (m.1 m.0) (subst (λ (y : G). Merges (get_or merges s m.0) y) (g.1 g.0) (at-zip Merges merges all zipped s m.0 g.0 inside))

      l : get_or (map local_maps all) s [] ≡ local_maps g.0
      l = get_or-map local_maps all s g.0 [] in-all ∙ ap local_maps (g.1 g.0)

      n : get_or (map extended all) s [] ≡ extended g.0
      n = get_or-map extended all s g.0 [] in-all ∙ ap extended (g.1 g.0)

      k : known m.0 ≡ get_or shards s []
      k = sym (ap (λ (ls : List (List ShardRow)). get_or ls s []) (sym shards-are) ∙ get_or-map known merges s m.0 [] inside ∙ ap known (m.1 m.0))

      o : more m.0 ≡ shards_at s others
      o = sym (get_or-map more merges s m.0 [] inside ∙ ap more (m.1 m.0)) ∙ others-are s within

  pub have-merged : MergesShards prefixes shards others (map extended all) (map local_maps all)
  have-merged = record {
    many = omega (arith, length-map all extended, zip-long Merges merges all zipped, length-map merges known, ap length shards-are);
    each = merged-each;
  }

no-list-there : (lists : List (List ShardRow)) (s : ℕ) → length lists ≤ s → get_or lists s [] ≡ []
no-list-there [] s past = refl
no-list-there (x ∷ lists) zero past = absurd (omega (arith, past))
no-list-there (x ∷ lists) (suc s) past = no-list-there lists s (omega (arith, past))

module _ (prefixes : List (List ℕ)) (shards : List (List ShardRow)) (rows : List (List ShardRow)) (others : List (List (List ShardRow))) (orders : List (List Place)) (new : List (List ShardRow)) (local_maps : List (List (List ℕ)))
    (are : AreShards shards) (opened : AllThree AreOpened rows others orders) (merged : MergesShards prefixes shards others new local_maps) where
  one : (i : ℕ) (d : List Place) → i < length rows → AreOpened (get_or rows i []) (get_or others i []) (get_or orders i d)
  one i d within = opened.each i [] [] d within

  own-at : (s : ℕ) → All (All (Own s)) (shards_at s others)
  own-at s k d within =
      let inside : k < length others = omega (arith, within, length-map others (λ (l : List (List ShardRow)). get_or l s [])) in
      subst (All (Own s)) (sym (get_or-map (λ (l : List (List ShardRow)). get_or l s []) others k [] d inside)) ((one k [] (omega (arith, inside, opened.second))).sharded.own s)

  extended-by : (s : ℕ) → (more : List ShardRow) × (get_or new s [] ≡ all_noted is_same_row (get_or shards s []) more) × All (λ (row : ShardRow). shard_at row ≡ s) more
  extended-by s =
      ⊎_elim
      (λ within. (
        flat_map (λ l. l) (remapped_each prefixes (shards_at s others)),
        (merged.each s within).known ∙ flat-in-turn is_same_row (remapped_each prefixes (shards_at s others)) (get_or shards s []),
        remapped-own s prefixes (shards_at s others) (own-at s),
      ))
      (λ past. ([], no-list-there new s (omega (arith, past, merged.many)) ∙ sym (no-list-there shards s past), All-nil (λ (row : ShardRow). shard_at row ≡ s)))
      (cases_lt s (length shards))

  pub merged-shards : AreShards new
  merged-shards = noted-shards shards new are merged.many extended-by

  pub merged-grows : Grows shards new
  merged-grows = noted-grows shards new merged.many (λ s. ((extended-by s).0, (extended-by s).1))

  module _ (whole : length shards ≡ 64) where
    -- a place of one of the others is in one of the shards
    order-within : (i : ℕ) → i < length rows → (p : Place) → IsRowAt (get_or others i []) p → p.shard < 64
    order-within i within p stands =
        let own : shard_at (row_at (get_or others i []) p) ≡ p.shard = (one i [] within).sharded.own p.shard p.local no_row stands in
        let below = mod_below (hashes.finish (hashes.write hashes.initial (row_at (get_or others i []) p).text)) 8 (omega arith) in
        omega (arith, own, below)

    stands-now : (i : ℕ) → i < length rows → (p : Place) → IsRowAt (get_or others i []) p → StandsAt new (merged_place local_maps i p) (remapped_by (get_or prefixes i []) (row_at (get_or others i []) p))
    stands-now i within p stands =
        subst (λ (l : List ShardRow). slice_get l (get_or (get_or (get_or local_maps p.shard []) i []) p.local 0) ≡ Some row) (sym noted.known)
        (subst (λ (numbers : List (List ℕ)). slice_get (all_in_turn is_same_row (get_or shards p.shard []) lists) (get_or (get_or numbers i []) p.local 0) ≡ Some row) (sym noted.places)
        (placed-in-turn is_same_row same-row lists (get_or shards p.shard []) i p.local row at))
      where
        row : ShardRow
        row = remapped_by (get_or prefixes i []) (row_at (get_or others i []) p)

        lists : List (List ShardRow)
        lists = remapped_each prefixes (shards_at p.shard others)

        noted : AreNotedInTurn is_same_row lists (get_or local_maps p.shard []) (get_or shards p.shard []) (get_or new p.shard [])
        noted = merged.each p.shard (omega (arith, order-within i within p stands, whole))

        in-others : i < length others
        in-others = omega (arith, within, opened.second)

        there : get_or lists i [] ≡ map (remapped_by (get_or prefixes i [])) (get_or (get_or others i []) p.shard [])
        there =
            remapped-at prefixes (shards_at p.shard others) i (omega (arith, in-others, length-map others (λ (l : List (List ShardRow)). get_or l p.shard [])))
            ∙ ap (map (remapped_by (get_or prefixes i []))) (get_or-map (λ (l : List (List ShardRow)). get_or l p.shard []) others i [] [] in-others)

        at : slice_get (get_or lists i []) p.local ≡ Some row
        at =
            subst (λ (l : List ShardRow). slice_get l p.local ≡ Some row) (sym there)
            (get-mapped (remapped_by (get_or prefixes i [])) (get_or (get_or others i []) p.shard []) p.local (row_at (get_or others i []) p) (row-there (get_or others i []) p stands))

    in-rows : (i : ℕ) → i < length orders → i < length rows
    in-rows i within = omega (arith, within, opened.third)

    pub orders-in : All (All (λ (p : Place). p.shard < 64)) orders
    orders-in i d within k e inside =
        let order = get_or orders i d in
        order-within i (in-rows i within) (get_or order k e) ((one i d (in-rows i within)).stand k (get_or order k e) (slice_get-get_or order k e inside))

    pub orders-stand : StandEach new local_maps orders
    orders-stand i d within =
        let inside : i < length orders = omega (arith, within, merged-many local_maps 0 orders) in
        subst (All (IsRowAt new)) (sym (merged-here local_maps orders i d d inside)) (λ k e in-order.
        let order = get_or orders i d in
        let here : k < length order = omega (arith, in-order, length-map order (merged_place local_maps i)) in
        let p = get_or order k e in
        let stands : IsRowAt (get_or others i []) p = (one i d (in-rows i inside)).stand k p (slice_get-get_or order k e here) in
        subst (IsRowAt new) (sym (get_or-map (merged_place local_maps i) order k e e here))
        (is-there new (merged_place local_maps i p) (remapped_by (get_or prefixes i []) (row_at (get_or others i []) p)) (stands-now i (in-rows i inside) p stands)))

    one-order : (i : ℕ) → i < length rows → (ps : List Place) → ((n : ℕ) (p : Place) → slice_get ps n ≡ Some p → IsRowAt (get_or others i []) p)
        → rows_in new (map (merged_place local_maps i) ps) ≡ map (remapped_by (get_or prefixes i [])) (rows_in (get_or others i []) ps)
    one-order i within [] stand = refl
    one-order i within (p ∷ ps) stand =
        let here : row_at new (merged_place local_maps i p) ≡ remapped_by (get_or prefixes i []) (row_at (get_or others i []) p) =
        row-is new (merged_place local_maps i p) (remapped_by (get_or prefixes i []) (row_at (get_or others i []) p)) (stands-now i within p (stand 0 p refl)) in
        λ j. here j ∷ one-order i within ps (λ n q at. stand (suc n) q at) j

    pub orders-rows : map (rows_in new) (merged_places local_maps 0 orders) ≡ remapped_each prefixes rows
    orders-rows =
        ext_get_or [] (map (rows_in new) (merged_places local_maps 0 orders)) (remapped_each prefixes rows)
        (omega (arith, length-map (merged_places local_maps 0 orders) (rows_in new), merged-many local_maps 0 orders, remapped-many prefixes rows, opened.third))
        (λ i within.
        let in-merged : i < length (merged_places local_maps 0 orders) = omega (arith, within, length-map (merged_places local_maps 0 orders) (rows_in new)) in
        let inside : i < length orders = omega (arith, in-merged, merged-many local_maps 0 orders) in
        let opens = one i [] (in-rows i inside) in
        get_or-map (rows_in new) (merged_places local_maps 0 orders) i [] [] in-merged
        ∙ ap (rows_in new) (merged-here local_maps orders i [] [] inside)
        ∙ one-order i (in-rows i inside) (get_or orders i []) opens.stand
        ∙ ap (map (remapped_by (get_or prefixes i []))) opens.are
        ∙ sym (remapped-at prefixes rows i (in-rows i inside)))
