-- What a numbering says of an item of one of its lists.
use Rattle.std.proofs.Common.{◌≡◌, ◌<◌, ◌≤◌, ℕ, Bool, List, [], length, Some, None, slice_get, slice_index_or, get_or, ◌⊎◌, inl, inr, sym, subst, arith}
use Rattle.std.proofs.lemmas.List.{get_or_past}
use Rattle.std.proofs.lemmas.Option.{get_or_from_slice_get, slice_get_cases, slice_get_within}
use Rattle.ga_shards.specs.Numbers.{IsNumbering, NumberingSeen, item_of}

-- it has a number, which has an item
pub record HasNumber {T : Type 0} (n : NumberingSeen T) (list place : ℕ) : Type 0 where
  pub list_is : list < length n.numbers
  pub place_is : place < length (slice_index_or n.numbers list [])
  pub item : (number : ℕ) → item_of n.numbers list place ≡ Some number → number < length n.items

-- a list of lists that has a place in one of them has that one
has_list : (lists : List (List ℕ)) (list place : ℕ) → place < length (slice_index_or lists list []) → list < length lists
has_list lists list place within = grind (arith, get_or_past lists list [])

of_item : {T : Type 0} (eq : T → T → Bool) (lists : List (List T)) (n : NumberingSeen T) → IsNumbering eq lists n → (list place : ℕ) (item : T) → item_of lists list place ≡ Some item → HasNumber n list place
of_item eq lists n h list place item at =
    let m = h.numbered list place item at in
    let inner : place < length (slice_index_or n.numbers list []) = slice_get_within (slice_index_or n.numbers list []) place m.0 m.2 in
    record {
      list_is = has_list n.numbers list place inner;
      place_is = inner;
      item = λ number named. let same : m.0 ≡ number = cc in subst (λ (k : ℕ). k < length n.items) same (slice_get_within n.items m.0 m.1 m.3);
    }

at_place : {T : Type 0} (eq : T → T → Bool) (lists : List (List T)) (n : NumberingSeen T) → IsNumbering eq lists n → (list place : ℕ)
    → ((x : T) × (place < length (slice_index_or lists list [])) × (item_of lists list place ≡ Some x) × (get_or (slice_index_or lists list []) place x ≡ x)) ⊎ ((length (slice_index_or lists list []) ≤ place) × (item_of lists list place ≡ None))
    → place < length (slice_index_or lists list []) → HasNumber n list place
at_place eq lists n h list place (inl c) within = of_item eq lists n h list place c.0 c.2
at_place eq lists n h list place (inr c) within = absurd (omega (arith, c.0, within))

-- what is at a place of a list is what a lookup there finds
found : {X : Type 0} (xs : List X) (at : ℕ) (x : X) → at < length xs → x ≡ get_or xs at x → slice_get xs at ≡ Some x
found {X} xs at x within is = go (slice_get_cases xs at).1
  where
    go : ((y : X) × (at < length xs) × (slice_get xs at ≡ Some y) × (get_or xs at y ≡ y)) ⊎ ((length xs ≤ at) × (slice_get xs at ≡ None)) → slice_get xs at ≡ Some x
    go (inl c) = let same : get_or xs at x ≡ c.0 = get_or_from_slice_get xs at c.0 x c.2 in cc
    go (inr c) = absurd (omega (arith, within, c.0))

pub has_number : {T : Type 0} (eq : T → T → Bool) (lists : List (List T)) (n : NumberingSeen T) → IsNumbering eq lists n → (list place : ℕ) (items : List T) → list < length lists → items ≡ get_or lists list items → place < length items → HasNumber n list place
has_number {T} eq lists n h list place items there is within =
    let same : slice_index_or lists list [] ≡ items = get_or_from_slice_get lists list items [] (found lists list items there is) in
    let inner : place < length (slice_index_or lists list []) = subst (λ (xs : List T). place < length xs) (sym same) within in
    at_place eq lists n h list place (slice_get_cases (slice_index_or lists list []) place).1 inner
