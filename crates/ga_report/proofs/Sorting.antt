-- Each list has an order.
use Rattle.std.proofs.Common.{◌≡◌, ℕ, zero, suc, ◌+◌, true, false, cond, List, [], ◌∷◌, Less, Equal, Greater, get_or, refl, sym, ap, ◌∙◌, subst, arith}
use Rattle.std.specs.declared.cmp.Ordering.{Ordering}
use Rattle.std.specs.Ordering.{is_lt, ordering_reverse}
use Rattle.std.specs.Cmp.{IsTotalOrder}
use Rattle.std.specs.List.Sorted.{IsPermutation, IsSorted}
use Rattle.std.proofs.lemmas.Bool.{false≢true}
use Rattle.std.proofs.lemmas.List.Sorted.{IsPermutation-cons, IsPermutation-refl, IsPermutation-swap, IsPermutation-trans}

module _ {X : Type 0} (R : X → X → Ordering) (o : IsTotalOrder R) where
  abbrev put : X → List X → List X
  put x [] = x ∷ []
  put x (y ∷ ys) = cond (is_lt (R y x)) (y ∷ put x ys) (x ∷ y ∷ ys)

  abbrev pub in-order : List X → List X
  in-order [] = []
  in-order (x ∷ xs) = put x (in-order xs)

  put-same : (x : X) (xs : List X) → IsPermutation (x ∷ xs) (put x xs)
  put-same x [] = IsPermutation-refl _
  put-same x (y ∷ ys) = elim (is_lt (R y x)) as (λ b. IsPermutation (x ∷ y ∷ ys) (cond b (y ∷ put x ys) (x ∷ y ∷ ys))) [
    | true ↦ IsPermutation-trans _ (y ∷ x ∷ ys) _ (IsPermutation-swap (x ∷ y ∷ ys) (y ∷ x ∷ ys) 0 1 (omega arith) (omega arith) refl) (IsPermutation-cons y (x ∷ ys) (put x ys) (put-same x ys))
    | false ↦ IsPermutation-refl _
  ]

  pub in-order-same : (xs : List X) → IsPermutation xs (in-order xs)
  in-order-same [] = IsPermutation-refl _
  in-order-same (x ∷ xs) = IsPermutation-trans _ (x ∷ in-order xs) _ (IsPermutation-cons x xs (in-order xs) (in-order-same xs)) (put-same x (in-order xs))

  -- an element may stand before a list
  abbrev pub Before : X → List X → Type 0
  Before x [] = Unit {0}
  Before x (y ∷ ys) = is_lt (R y x) ≡ false

  pub sorted-cons : (x : X) (xs : List X) → Before x xs → IsSorted R xs → IsSorted R (x ∷ xs)
  sorted-cons x [] before up k d low high = absurd (omega (arith, high))
  sorted-cons x (y ∷ ys) before up zero d low high = before
  sorted-cons x (y ∷ ys) before up (suc k) d low high =
      let next : suc k + 1 ≡ suc (k + 1) = omega arith in
      subst (λ (n : ℕ). is_lt (R (get_or (x ∷ y ∷ ys) n d) (get_or (y ∷ ys) k d)) ≡ false) (sym next) (up k d (omega arith) (omega (arith, high)))

  pub sorted-tail : (x : X) (xs : List X) → IsSorted R (x ∷ xs) → IsSorted R xs
  sorted-tail x xs s k d low high =
      let next : suc k + 1 ≡ suc (k + 1) = omega arith in
      subst (λ (n : ℕ). is_lt (R (get_or (x ∷ xs) n d) (get_or xs k d)) ≡ false) next (s (suc k) d (omega arith) (omega (arith, high)))

  pub sorted-head : (x : X) (xs : List X) → IsSorted R (x ∷ xs) → Before x xs
  sorted-head x [] s = tt
  sorted-head x (y ∷ ys) s = s 0 x (omega arith) (omega arith)

  not-before : (x y : X) → is_lt (R y x) ≡ true → is_lt (R x y) ≡ false
  not-before x y e = go (R y x) refl e
    where
      go : (v : Ordering) → R y x ≡ v → is_lt v ≡ true → is_lt (R x y) ≡ false
      go Less at less = ap is_lt (o.antisymm x y ∙ ap ordering_reverse at)
      go Equal at less = absurd (false≢true less)
      go Greater at less = absurd (false≢true less)

  before-put : (z x : X) (xs : List X) → is_lt (R x z) ≡ false → Before z xs → Before z (put x xs)
  before-put z x [] first before = first
  before-put z x (y ∷ ys) first before = elim (is_lt (R y x)) as (λ b. Before z (cond b (y ∷ put x ys) (x ∷ y ∷ ys))) [ true ↦ before | false ↦ first ]

  put-sorted : (x : X) (xs : List X) → IsSorted R xs → IsSorted R (put x xs)
  put-sorted x [] up = sorted-cons x [] tt up
  put-sorted x (y ∷ ys) up = elim (is_lt (R y x)) as (λ b. is_lt (R y x) ≡ b → IsSorted R (cond b (y ∷ put x ys) (x ∷ y ∷ ys))) [
    | true ↦ λ e. sorted-cons y (put x ys) (before-put y x ys (not-before x y e) (sorted-head y ys up)) (put-sorted x ys (sorted-tail y ys up))
    | false ↦ λ e. sorted-cons x (y ∷ ys) e up
  ] refl

  pub in-order-sorted : (xs : List X) → IsSorted R (in-order xs)
  in-order-sorted [] = λ k d low high. absurd (omega (arith, high))
  in-order-sorted (x ∷ xs) = put-sorted x (in-order xs) (in-order-sorted xs)
