-- A list whose items' keys rise: what is found at a key, where a key stands or would go, and an item put in its place.
use Rattle.std.specs.Prelude.{◌≡◌, ℕ, ◌<◌, ◌≤◌, List, [], ◌∷◌, Option, length, map, slice_index_or}
use Rattle.std.specs.declared.cmp.Ordering.{Ordering}
use Rattle.std.specs.declared.cmp.Ordering.TheVariants.{Less, Equal, Greater}
use Rattle.std.specs.Ordering.{is_eq, match_ordering}
use Rattle.std.specs.List.{find}
use Rattle.std.specs.List.Sorted.{IsStrictlySortedBy}

module _ {X K : Type 0} (R : K → K → Ordering) (key : X → K) where
  -- the item with this key
  abbrev pub find_at : K → List X → Option X
  find_at k xs = find (λ x. is_eq (R k (key x))) xs

  -- the items' keys rise
  abbrev pub Rises : List X → Type 0
  Rises xs = IsStrictlySortedBy R (map key xs)

  -- the item at place i has the key, and those before it are below
  pub record StandsAt (k : K) (xs : List X) (i : ℕ) : Type 0 where
    pub within : i < length xs
    pub before : (j : ℕ) (d : X) → j < i → R k (key (slice_index_or xs j d)) ≡ Greater
    pub here : (d : X) → R k (key (slice_index_or xs i d)) ≡ Equal

  -- no item has the key, which would go to place i
  pub record GoesTo (k : K) (xs : List X) (i : ℕ) : Type 0 where
    pub within : i ≤ length xs
    pub before : (j : ℕ) (d : X) → j < i → R k (key (slice_index_or xs j d)) ≡ Greater
    pub after : (d : X) → i < length xs → R k (key (slice_index_or xs i d)) ≡ Less

module _ {X K : Type 0} (R : K → K → Ordering) (key : X → K) (join : X → X → X) where
  -- an item put in its place, or joined to the item that has its key
  abbrev pub put : X → List X → List X
  put y [] = y ∷ []
  put y (x ∷ xs) = match_ordering (R (key y) (key x)) (y ∷ x ∷ xs) (join x y ∷ xs) (x ∷ put y xs)

  -- each item of the first list put into the second
  abbrev pub put_all : List X → List X → List X
  put_all [] xs = xs
  put_all (y ∷ ys) xs = put_all ys (put y xs)
