-- What is sorted, and has no two of one key, rises.
use Rattle.std.proofs.Common.{◌≡◌, ℕ, suc, false, List, [], ◌∷◌, map, get_or, Less, Equal, Greater, refl, sym, ap, ◌∙◌, arith}
use Rattle.std.specs.declared.cmp.Ordering.{Ordering}
use Rattle.std.specs.Ordering.{is_eq, is_lt, ordering_reverse}
use Rattle.std.specs.Cmp.{IsTotalOrder}
use Rattle.std.specs.List.{IsDistinct}
use Rattle.std.specs.List.Sorted.{IsSortedBy}
use Rattle.std.proofs.lemmas.Bool.{true≢false}
use Rattle.std.proofs.lemmas.List.{get_or-map, length-map}
use Rattle.std.proofs.lemmas.Map.Keys.{apart_from_distinct}
use Rattle.ga_summary.specs.Steps.Places.{Rises}
use Rattle.ga_summary.proofs.Rising.{rises_from_adjacent}

module _ {X K : Type 0} (R : K → K → Ordering) (key : X → K) (o : IsTotalOrder R) where
  less : (a b : K) (v : Ordering) → R a b ≡ v → is_lt (R b a) ≡ false → is_eq (R a b) ≡ false → R a b ≡ Less
  less a b Less e before apart = e
  less a b Equal e before apart = absurd (true≢false (sym (ap is_eq e) ∙ apart))
  less a b Greater e before apart =
      let turned : R b a ≡ Less = o.antisymm b a ∙ ap ordering_reverse e in
      absurd (true≢false (sym (ap is_lt turned) ∙ before))

  pub rises : (xs : List X) → IsSortedBy (λ x y. is_lt (R (key x) (key y))) xs → IsDistinct (λ a b. is_eq (R a b)) (map key xs) → Rises R key xs
  rises xs sorted distinct = rises_from_adjacent R key o xs (λ k d lt.
      let a = key (get_or xs k d) in
      let b = key (get_or xs (suc k) d) in
      let before : is_lt (R b a) ≡ false = ap (λ (n : ℕ). is_lt (R (key (get_or xs n d)) a)) (omega arith) ∙ sorted k d (omega arith) lt in
      let long = length-map xs key in
      let apart : is_eq (R a b) ≡ false =
      (λ i. is_eq (R (sym (get_or-map key xs k d (key d) (omega (arith, lt))) i) (sym (get_or-map key xs (suc k) d (key d) (omega (arith, lt))) i)))
      ∙ apart_from_distinct (λ x y. is_eq (R x y)) (map key xs) k (suc k) (key d) distinct (omega arith) (omega (arith, lt, long)) in
      less a b (R a b) refl before apart)

-- a list is itself, item by item
pub map-same : {X : Type 0} (xs : List X) → map (λ x. x) xs ≡ xs
map-same [] = refl
map-same (x ∷ xs) = ap (λ (l : List _). x ∷ l) (map-same xs)
