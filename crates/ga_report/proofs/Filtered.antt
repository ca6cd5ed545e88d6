-- Lists with the same elements: those that pass a test are the same, too.
use Rattle.std.proofs.Common.{◌≡◌, ℕ, zero, suc, ◌<◌, Bool, true, false, cond, List, [], ◌∷◌, length, get_or, set, filter, refl, sym, subst, arith}
use Rattle.std.specs.List.{swap}
use Rattle.std.specs.List.Sorted.{IsPermutation}
use Rattle.std.proofs.lemmas.List.Sorted.{IsPermutation-cons, IsPermutation-keeps, IsPermutation-refl, IsPermutation-swap, IsPermutation-trans}

module _ {X : Type 0} (p : X → Bool) where
  -- with an element more in front
  more : (x : X) (xs ys : List X) → IsPermutation (filter p xs) (filter p ys) → IsPermutation (filter p (x ∷ xs)) (filter p (x ∷ ys))
  more x xs ys moved = pick (p x)
    where
      pick : (b : Bool) → IsPermutation (cond b (x ∷ filter p xs) (filter p xs)) (cond b (x ∷ filter p ys) (filter p ys))
      pick true = IsPermutation-cons x (filter p xs) (filter p ys) moved
      pick false = moved

  -- the first two in each other's place
  front : (x y : X) (xs : List X) → IsPermutation (filter p (x ∷ y ∷ xs)) (filter p (y ∷ x ∷ xs))
  front x y xs = pick (p x) (p y)
    where
      rest : List X
      rest = filter p xs

      pick : (b c : Bool) → IsPermutation (cond b (x ∷ cond c (y ∷ rest) rest) (cond c (y ∷ rest) rest)) (cond c (y ∷ cond b (x ∷ rest) rest) (cond b (x ∷ rest) rest))
      pick true true = IsPermutation-swap (x ∷ y ∷ rest) (y ∷ x ∷ rest) 0 1 (omega arith) (omega arith) refl
      pick true false = IsPermutation-refl (x ∷ rest)
      pick false true = IsPermutation-refl (y ∷ rest)
      pick false false = IsPermutation-refl rest

  -- the first and another in each other's place
  with-first : (x : X) (xs : List X) (j : ℕ) (d : X) → j < length xs → IsPermutation (filter p (x ∷ xs)) (filter p (get_or xs j d ∷ set xs j x))
  with-first x [] j d below = absurd (omega (arith, below))
  with-first x (y ∷ ys) zero d below = front x y ys
  with-first x (y ∷ ys) (suc j) d below =
      IsPermutation-trans _ _ _ (front x y ys) (IsPermutation-trans _ _ _
      (more y (x ∷ ys) (get_or ys j d ∷ set ys j x) (with-first x ys j d (omega (arith, below))))
      (front y (get_or ys j d) (set ys j x)))

  -- any two
  two : (xs : List X) (i j : ℕ) (d : X) → i < length xs → j < length xs → IsPermutation (filter p xs) (filter p (set (set xs i (get_or xs j d)) j (get_or xs i d)))
  two [] i j d below below' = absurd (omega (arith, below))
  two (x ∷ xs) zero zero d below below' = IsPermutation-refl _
  two (x ∷ xs) zero (suc j) d below below' = with-first x xs j d (omega (arith, below'))
  two (x ∷ xs) (suc i) zero d below below' = with-first x xs i d (omega (arith, below))
  two (x ∷ xs) (suc i) (suc j) d below below' = more x xs _ (two xs i j d (omega (arith, below)) (omega (arith, below')))

  swapped : (xs : List X) (l : List X) (i j : ℕ) → i < length l → j < length l → IsPermutation (filter p xs) (filter p l) → IsPermutation (filter p xs) (filter p (swap l i j))
  swapped xs [] i j below below' moved = moved
  swapped xs (d ∷ l) i j below below' moved = IsPermutation-trans _ _ _ moved (two (d ∷ l) i j d below below')

  pub filter-moved : (xs ys : List X) → IsPermutation xs ys → IsPermutation (filter p xs) (filter p ys)
  filter-moved xs ys moved = IsPermutation-keeps xs (λ (l : List X). IsPermutation (filter p xs) (filter p l)) (IsPermutation-refl (filter p xs)) (swapped xs) ys moved
