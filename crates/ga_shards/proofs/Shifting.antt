-- Shards that were numbered by themselves, one after the other.
use Rattle.std.proofs.Common.{◌≡◌, ℕ, zero, suc, ◌+◌, ◌<◌, ◌≤◌, Bool, true, false, List, [], ◌∷◌, ◌++◌, length, take, get_or, map, Some, refl, sym, ap, ◌∙◌, subst, arith, ⊎_elim}
use Rattle.std.specs.Prelude.{◌==◌, ⊤, filter, slice_get, sum_by}
use Rattle.std.proofs.lemmas.Bool.{cases_Bool, cond-true, cond-false, true≢false, eqb-true, eq-eqb, false_from_ne_true}
use Rattle.std.proofs.lemmas.List.{take_at, drop_at}
use Rattle.std.proofs.lemmas.List.Concat.{length-flat_map, get_or-flat_map}
use Rattle.std.proofs.lemmas.List.Sums.{sum_by_more_le, passes_at_first}
use Rattle.std.proofs.lemmas.List.Elements.{All-nil, All-cons, All-head, All-tail, All-append, All-weaker, All-get_or, All-take, All-drop, All-filter, All-contains, All-contains_itself, All-from_recursion, filter_passes}
use Rattle.std.proofs.lemmas.Map.Keys.{IsDistinct-head, IsDistinct-tail, IsDistinct-cons}
use Rattle.std.proofs.lemmas.Option.{none-some, slice_get-map, slice_get_within, slice_get-get_or, get_or_from_slice_get}
use Rattle.std.specs.Cmp.{IsEquivalence}
use Rattle.std.specs.List.{All, AllByRecursion, Contains, IsDistinct, list_any}
use Rattle.std.specs.Option.{option_map}
use Rattle.ga_shards.specs.Numbers.{IsNumbering, item_of, place_of}
use Rattle.ga_shards.specs.Steps.{all_noted, all_of, those_of, start_of, around, number_of, shifted}
use Rattle.ga_shards.proofs.Noting.{has-all, from-all, stays-distinct, first-within}

-- ---- lists

by-recursion : {T : Type 0} (P : T → Type 0) (xs : List T) → All P xs → AllByRecursion P xs
by-recursion P [] all = tt
by-recursion P (x ∷ xs) all = (All-head P x xs all, by-recursion P xs (All-tail P x xs all))

all-left : {T : Type 0} (P : T → Type 0) (xs ys : List T) → All P (xs ++ ys) → All P xs
all-left P xs ys all = subst (All P) (take_at xs ys (length xs) refl) (All-take P (length xs) (xs ++ ys) all)

all-right : {T : Type 0} (P : T → Type 0) (xs ys : List T) → All P (xs ++ ys) → All P ys
all-right P xs ys all = subst (All P) (drop_at xs ys (length xs) refl) (All-drop P (length xs) (xs ++ ys) all)

-- what holds of all items of all lists holds of those of one list
pub all-at : {T : Type 0} (P : T → Type 0) (lists : List (List T)) (d : ℕ) (none : List T) → d < length lists → All P (all_of lists) → All P (get_or lists d none)
all-at P [] d none lt all = absurd (omega arith)
all-at P (items ∷ lists) zero none lt all = all-left P items (all_of lists) all
all-at P (items ∷ lists) (suc d) none lt all = all-at P lists d none (omega arith) (all-right P items (all_of lists) all)

-- what holds of each that a filter keeps holds of each that passes
all-unfiltered : {T : Type 0} (p : T → Bool) (P : T → Type 0) (xs : List T) → All P (filter p xs) → All (λ x. p x ≡ true → P x) xs
all-unfiltered p P [] all = All-nil (λ x. p x ≡ true → P x)
all-unfiltered p P (x ∷ xs) all =
    ⊎_elim
    (λ yes.
    let kept : All P (x ∷ filter p xs) = subst (All P) (cond-true _ _ _ yes) all in
    All-cons (λ y. p y ≡ true → P y) x xs (λ _. All-head P x (filter p xs) kept) (all-unfiltered p P xs (All-tail P x (filter p xs) kept)))
    (λ off.
    let rest : All P (filter p xs) = subst (All P) (cond-false _ _ _ off) all in
    All-cons (λ y. p y ≡ true → P y) x xs (λ on. absurd (true≢false (sym on ∙ off))) (all-unfiltered p P xs rest))
    (cases_Bool (p x))

all-flat : {T : Type 0} (P : T → Type 0) (lists : List (List T)) → ((d : ℕ) → d < length lists → All P (get_or lists d [])) → All P (all_of lists)
all-flat P [] each = All-nil P
all-flat P (items ∷ lists) each =
    All-append P items (all_of lists) (each 0 (omega arith)) (all-flat P lists (λ d lt. each (suc d) (omega arith)))

-- what holds of all items of all lists holds of each item of a list
item-in : {T : Type 0} (P : T → Type 0) (lists : List (List T)) (d l : ℕ) (x : T) → item_of lists d l ≡ Some x → All P (all_of lists) → P x
item-in P [] d l x is all = absurd (none-some x is)
item-in P (items ∷ lists) zero l x is all =
    subst P (get_or_from_slice_get items l x x is) (All-get_or P items l x (slice_get_within items l x is) (all-left P items (all_of lists) all))
item-in P (items ∷ lists) (suc d) l x is all = item-in P lists d l x is (all-right P items (all_of lists) all)

-- each of all items is one of a list
abbrev Found : {T : Type 0} → List (List T) → T → Type 0
Found lists x = (d : ℕ) × (l : ℕ) × (item_of lists d l ≡ Some x)

all-found : {T : Type 0} (lists : List (List T)) → All (Found lists) (all_of lists)
all-found [] = All-nil (Found [])
all-found (items ∷ lists) =
    All-append (Found (items ∷ lists)) items (all_of lists)
    (All-weaker (Contains items) (Found (items ∷ lists)) (λ x has. (0, has.0, slice_get-get_or items has.0 x has.1 ∙ ap Some has.2)) items (All-contains_itself items))
    (All-weaker (Found lists) (Found (items ∷ lists)) (λ x found. (suc found.0, found.1, found.2)) (all_of lists) (all-found lists))

-- an item of lists that are mapped item by item
item-mapped : {T U : Type 0} (g : T → U) (lists : List (List T)) (d l : ℕ) → item_of (map (λ items. map g items) lists) d l ≡ option_map g (item_of lists d l)
item-mapped g [] d l = refl
item-mapped g (items ∷ lists) zero l = slice_get-map g items l
item-mapped g (items ∷ lists) (suc d) l = item-mapped g lists d l

-- ---- shards

module _ {T : Type 0} (eq : T → T → Bool) (laws : IsEquivalence eq) (shard : T → ℕ) (respects : (x y : T) → eq x y ≡ true → shard x ≡ shard y) where
  distinct-append : (xs ys : List T) → IsDistinct eq xs → IsDistinct eq ys → All (λ x. All (λ y. eq x y ≡ false) ys) xs → IsDistinct eq (xs ++ ys)
  distinct-append [] ys distinct others apart = others
  distinct-append (x ∷ xs) ys distinct others apart =
      IsDistinct-cons eq x (xs ++ ys)
      (by-recursion (λ y. eq x y ≡ false) (xs ++ ys)
      (All-append (λ y. eq x y ≡ false) xs ys
      (All-from_recursion (λ y. eq x y ≡ false) xs (IsDistinct-head eq x xs distinct))
      (All-head (λ x. All (λ y. eq x y ≡ false) ys) x xs apart)))
      (distinct-append xs ys (IsDistinct-tail eq x xs distinct) others (All-tail (λ x. All (λ y. eq x y ≡ false) ys) x xs apart))

  -- each list has different items of one shard, from shard s on
  abbrev Sharded : ℕ → List (List T) → Type 0
  Sharded s [] = ⊤
  Sharded s (items ∷ more) = IsDistinct eq items × All (λ x. shard x ≡ s) items × Sharded (suc s) more

  from-each : (shards : List (List T)) (s : ℕ) → ((i : ℕ) → i < length shards → IsDistinct eq (get_or shards i []) × All (λ x. shard x ≡ s + i) (get_or shards i [])) → Sharded s shards
  from-each [] s each = tt
  from-each (items ∷ more) s each =
      let here = each 0 (omega arith) in
      let first : s + 0 ≡ s = omega arith in (
        here.0,
        subst (λ k. All (λ x. shard x ≡ k) items) first here.1,
        from-each more (suc s) (λ i lt.
            let next = each (suc i) (omega arith) in
            let same : s + suc i ≡ suc s + i = omega arith in
            (next.0, subst (λ k. All (λ x. shard x ≡ k) (get_or more i [])) same next.1)),
      )

  apart : (x y : T) (s : ℕ) → shard x ≡ s → suc s ≤ shard y → eq x y ≡ false
  apart x y s at above = false_from_ne_true (eq x y) (λ yes. let same = respects x y yes in absurd (omega arith))

  nil-distinct : IsDistinct eq []
  unfolding IsDistinct
  nil-distinct = tt

  flat-distinct : (shards : List (List T)) (s : ℕ) → Sharded s shards → IsDistinct eq (all_of shards) × All (λ x. s ≤ shard x) (all_of shards)
  flat-distinct [] s sharded = (nil-distinct, All-nil (λ x. s ≤ shard x))
  flat-distinct (items ∷ more) s sharded =
      let rest = flat-distinct more (suc s) sharded.2 in (
        distinct-append items (all_of more) sharded.0 rest.0
            (All-weaker (λ x. shard x ≡ s) (λ x. All (λ y. eq x y ≡ false) (all_of more))
            (λ x at. All-weaker (λ y. suc s ≤ shard y) (λ y. eq x y ≡ false) (λ y above. apart x y s at above) (all_of more) rest.1) items sharded.1),
        All-append (λ x. s ≤ shard x) items (all_of more)
            (All-weaker (λ x. shard x ≡ s) (λ x. s ≤ shard x) (λ x at. omega arith) items sharded.1)
            (All-weaker (λ x. suc s ≤ shard x) (λ x. s ≤ shard x) (λ x above. omega arith) (all_of more) rest.1),
      )

  module _ (lists shards : List (List T)) (each : (s : ℕ) → s < length shards → get_or shards s [] ≡ all_noted eq [] (those_of shard s (all_of lists)))
      (within : (x : T) → shard x < length shards) where
    sharded : Sharded 0 shards
    sharded = from-each shards 0 (λ s lt.
        let those = those_of shard s (all_of lists) in
        subst (λ l. IsDistinct eq l × All (λ x. shard x ≡ 0 + s) l) (sym (each s lt)) (
          stays-distinct eq laws those [] nil-distinct,
          from-all eq laws (λ x. shard x ≡ 0 + s) those [] (All-nil (λ x. shard x ≡ 0 + s))
              (All-weaker (λ x. (shard x == s) ≡ true) (λ x. shard x ≡ 0 + s) (λ x on. let same = eqb-true (shard x) s on in omega arith) those (filter_passes (λ x. shard x == s) (all_of lists))),
        ))

    -- each item of a list is in its shard
    pub all-known : All (λ x. list_any (eq x) (around shard shards x) ≡ true) (all_of lists)
    all-known =
        All-weaker (Contains (all_of lists)) (λ x. list_any (eq x) (around shard shards x) ≡ true)
        (λ x has.
        let s = shard x in
        let P : T → Type 0 = λ y. list_any (eq y) (get_or shards s []) ≡ true in
        let kept : All P (those_of shard s (all_of lists)) =
        subst (λ l. All (λ y. list_any (eq y) l ≡ true) (those_of shard s (all_of lists))) (sym (each s (within x))) (has-all eq laws (those_of shard s (all_of lists)) []) in
        All-contains (λ y. (shard y == s) ≡ true → P y) (all_of lists) x (all-unfiltered (λ y. shard y == s) P (all_of lists) kept) has (eq-eqb s s refl))
        (all_of lists) (All-contains_itself (all_of lists))

    -- the item that is equal to one, by its number
    at-number : (x : T) → list_any (eq x) (around shard shards x) ≡ true
        → (known : T) × (slice_get (all_of shards) (number_of eq shard shards x) ≡ Some known) × (eq x known ≡ true)
    at-number x any =
        let items = around shard shards x in
        let s = shard x in
        let k = place_of eq items x in
        let inside : k < length items = first-within (eq x) items any in
        let start : length (all_of (take s shards)) ≡ start_of shards s = length-flat_map (λ l. l) (take s shards) in
        let long : length (all_of shards) ≡ sum_by (λ l. length l) shards = length-flat_map (λ l. l) shards in
        let room = sum_by_more_le (λ (l : List T). length l) shards s [] (within x) in
        let same : get_or (all_of shards) (start_of shards s + k) x ≡ get_or items k x =
        ap (λ n. get_or (all_of shards) (n + k) x) (sym start) ∙ get_or-flat_map (λ l. l) shards s k [] x (within x) inside in (
          get_or items k x,
          slice_get-get_or (all_of shards) (start_of shards s + k) x (omega arith) ∙ ap Some same,
          passes_at_first (eq x) items x inside,
        )

    pub numbered : IsNumbering eq lists (shifted eq shard shards lists)
    numbered = record {
      distinct = (flat-distinct shards 0 sharded).0;
      numbered = λ d l x is.
          let found = at-number x (item-in (λ y. list_any (eq y) (around shard shards y) ≡ true) lists d l x is all-known) in (
            number_of eq shard shards x,
            found.0,
            item-mapped (number_of eq shard shards) lists d l ∙ ap (option_map (number_of eq shard shards)) is,
            found.1,
            found.2,
          );
      used = λ n known is.
          let all : All (Found lists) (all_of shards) =
          all-flat (Found lists) shards (λ s lt. subst (All (Found lists)) (sym (each s lt))
          (from-all eq laws (Found lists) (those_of shard s (all_of lists)) [] (All-nil (Found lists)) (All-filter (λ x. shard x == s) (Found lists) (all_of lists) (all-found lists)))) in
          subst (Found lists) (get_or_from_slice_get (all_of shards) n known known is)
          (All-get_or (Found lists) (all_of shards) n known (slice_get_within (all_of shards) n known is) all);
    }
