-- One more item at the end of a list that rises by its items' keys.
use Rattle.std.proofs.Common.{◌≡◌, ℕ, zero, suc, ◌+◌, ◌<◌, ◌≤◌, List, [], ◌∷◌, ◌++◌, Less, length, get_or, drop, arith, inl, inr}
use Rattle.std.proofs.Math.Nat.{eq-or-lt_of_le}
use Rattle.std.specs.declared.cmp.Ordering.{Ordering}
use Rattle.std.specs.Cmp.{IsTotalOrder}
use Rattle.std.specs.List.{All, AllByRecursion}
use Rattle.std.proofs.lemmas.List.Elements.{All-from_recursion, recursion_from_All}
use Rattle.ga_summary.specs.Steps.Places.{Rises}
use Rattle.ga_summary.proofs.Put.{Above, above_more, rises_none, rises_head, rises_tail, rises_cons, rises_less}

module _ {X K : Type 0} (R : K → K → Ordering) (key : X → K) where
  above_push : (k : K) (xs : List X) (x : X) → Above R key k xs → R k (key x) ≡ Less → Above R key k (xs ++ x ∷ [])
  above_push k [] x a e = (e, tt)
  above_push k (y ∷ xs) x a e = (a.0, above_push k xs x a.1 e)

  above_last : (k : K) (xs : List X) (x : X) → Above R key k (xs ++ x ∷ []) → R k (key x) ≡ Less
  above_last k [] x a = a.0
  above_last k (y ∷ xs) x a = above_last k xs x a.1

  above_before : (k : K) (xs : List X) (x : X) → Above R key k (xs ++ x ∷ []) → Above R key k xs
  above_before k [] x a = tt
  above_before k (y ∷ xs) x a = (a.0, above_before k xs x a.1)

  -- all others are below the last item
  abbrev pub Below : List X → K → Type 0
  Below xs k = All (λ x. R (key x) k ≡ Less) xs

  below_last : (xs : List X) (x : X) → Rises R key (xs ++ x ∷ []) → AllByRecursion (λ y. R (key y) (key x) ≡ Less) xs
  below_last [] x s = tt
  below_last (y ∷ xs) x s = (above_last (key y) xs x (rises_head R key y (xs ++ x ∷ []) s), below_last xs x (rises_tail R key y (xs ++ x ∷ []) s))

  pub below_from_push : (xs : List X) (x : X) → Rises R key (xs ++ x ∷ []) → Below xs (key x)
  below_from_push xs x s = All-from_recursion _ xs (below_last xs x s)

  pub rises_before : (xs : List X) (x : X) → Rises R key (xs ++ x ∷ []) → Rises R key xs
  rises_before [] x s = rises_none R key
  rises_before (y ∷ xs) x s = rises_cons R key y xs (above_before (key y) xs x (rises_head R key y (xs ++ x ∷ []) s)) (rises_before xs x (rises_tail R key y (xs ++ x ∷ []) s))

  rises_push_recursion : (xs : List X) (x : X) → Rises R key xs → AllByRecursion (λ y. R (key y) (key x) ≡ Less) xs → Rises R key (xs ++ x ∷ [])
  rises_push_recursion [] x s b = rises_cons R key x [] tt (rises_none R key)
  rises_push_recursion (y ∷ xs) x s b = rises_cons R key y (xs ++ x ∷ []) (above_push (key y) xs x (rises_head R key y xs s) b.0) (rises_push_recursion xs x (rises_tail R key y xs s) b.1)

  pub rises_push : (xs : List X) (x : X) → Rises R key xs → Below xs (key x) → Rises R key (xs ++ x ∷ [])
  rises_push xs x s b = rises_push_recursion xs x s (recursion_from_All _ xs b)

  pub rises_drop : (n : ℕ) (xs : List X) → Rises R key xs → Rises R key (drop n xs)
  rises_drop zero xs s = s
  rises_drop (suc n) [] s = s
  rises_drop (suc n) (x ∷ xs) s = rises_drop n xs (rises_tail R key x xs s)

  module _ (o : IsTotalOrder R) where
    -- what is above the last of items that rise is above them all
    pub below_above_last : (xs : List X) (n : ℕ) (k : K) → Rises R key xs → n + 1 ≡ length xs → ((d : X) → R (key (get_or xs n d)) k ≡ Less) → Below xs k
    below_above_last xs n k s e last i d lt =
        let past : i ≤ n = omega arith in
        elim (eq-or-lt_of_le past) [
          | inl same ↦ rw same (last d)
          | inr less ↦ o.trans _ _ _ (rises_less R o key xs i n d s less (omega arith)) (last d)
        ]

    -- items of which each is below the next rise
    pub rises_from_adjacent : (xs : List X) → ((k : ℕ) (d : X) → k + 1 < length xs → R (key (get_or xs k d)) (key (get_or xs (suc k) d)) ≡ Less) → Rises R key xs
    rises_from_adjacent [] each = rises_none R key
    rises_from_adjacent (x ∷ []) each = rises_cons R key x [] tt (rises_none R key)
    rises_from_adjacent (x ∷ y ∷ xs) each =
        let rest : Rises R key (y ∷ xs) = rises_from_adjacent (y ∷ xs) (λ k d lt. each (suc k) d (omega arith)) in
        let first : R (key x) (key y) ≡ Less = each 0 x (omega arith) in
        rises_cons R key x (y ∷ xs) (first, above_more R o key (key x) (key y) xs first (rises_head R key y xs rest)) rest
