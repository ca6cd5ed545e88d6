-- The keys of rows that were sorted: they rise, and each number is that of one key.
use Rattle.std.proofs.Common.{◌≡◌, ℕ, ◌+◌, ◌<◌, Bool, true, false, List, [], ◌∷◌, Some, Less, Equal, Greater, get_or, map, refl, sym, ap, ◌∙◌, subst, arith, ⊎_elim}
use Rattle.std.specs.Prelude.{slice_get}
use Rattle.std.specs.declared.cmp.Ordering.{Ordering}
use Rattle.std.specs.Ordering.{is_eq, is_lt, ordering_reverse}
use Rattle.std.specs.List.{IsDistinct}
use Rattle.std.specs.List.Sorted.{IsStrictlySortedBy}
use Rattle.std.proofs.lemmas.Bool.{cases_order, false≢true, true≢false}
use Rattle.std.proofs.lemmas.List.{get_or-map, length-map}
use Rattle.std.proofs.lemmas.Map.Keys.{IsDistinct-IsPermutation, apart_from_distinct, sorted_from_all_adjacent}
use Rattle.std.proofs.lemmas.Option.{get_or_from_slice_get, slice_get_within}
use Rattle.ga_base.specs.declared.key.Key.{Key}
use Rattle.ga_base.specs.Orders.{is_same_key, key_cmp}
use Rattle.ga_base.proofs.OrderLemmas.{key_cmp_total}
use Rattle.ga_numbers.proofs.Same.{key-laws}
use Rattle.ga_totals.specs.Steps.KeyRows.{AreByKey, NumberedKey}

pub less-by : (o p : Ordering) → p ≡ ordering_reverse o → is_lt p ≡ false → is_eq o ≡ false → o ≡ Less
less-by Less p back low apart = refl
less-by Equal p back low apart = absurd (true≢false apart)
less-by Greater p back low apart = absurd (false≢true (sym low ∙ ap is_lt back))

none-rise : IsStrictlySortedBy key_cmp []
unfolding IsStrictlySortedBy
none-rise = tt

-- different keys that were sorted rise
pub keys-rise : (keys : List Key) (order : List NumberedKey) → IsDistinct is_same_key keys → AreByKey keys order → IsStrictlySortedBy key_cmp (map (λ n. n.key) order)
keys-rise keys order distinct by_key = by-head order refl
  where
    apart : IsDistinct is_same_key (map (λ (n : NumberedKey). n.key) order)
    apart = IsDistinct-IsPermutation is_same_key (λ a b. key-laws.symm a b) keys (map (λ (n : NumberedKey). n.key) order) by_key.same distinct

    by-default : NumberedKey → IsStrictlySortedBy key_cmp (map (λ (n : NumberedKey). n.key) order)
    by-default d =
        sorted_from_all_adjacent key_cmp_total (map (λ (n : NumberedKey). n.key) order) d.key (λ k lt.
        let long = length-map order (λ (n : NumberedKey). n.key) in
        let first : get_or (map (λ (n : NumberedKey). n.key) order) k d.key ≡ (get_or order k d).key = get_or-map (λ (n : NumberedKey). n.key) order k d d.key (omega (arith, long, lt)) in
        let next : get_or (map (λ (n : NumberedKey). n.key) order) (k + 1) d.key ≡ (get_or order (k + 1) d).key = get_or-map (λ (n : NumberedKey). n.key) order (k + 1) d d.key (omega (arith, long, lt)) in
        let a = get_or (map (λ (n : NumberedKey). n.key) order) k d.key in
        let b = get_or (map (λ (n : NumberedKey). n.key) order) (k + 1) d.key in
        let low : is_lt (key_cmp b a) ≡ false = (λ i. is_lt (key_cmp (next i) (first i))) ∙ by_key.sorted k d (omega arith) (omega (arith, long, lt)) in
        less-by (key_cmp a b) (key_cmp b a) (key_cmp_total.antisymm b a) low (apart_from_distinct is_same_key (map (λ (n : NumberedKey). n.key) order) k (k + 1) d.key apart (omega arith) lt))

    by-head : (ns : List NumberedKey) → order ≡ ns → IsStrictlySortedBy key_cmp (map (λ (n : NumberedKey). n.key) order)
    by-head [] e = subst (λ (ns : List NumberedKey). IsStrictlySortedBy key_cmp (map (λ (n : NumberedKey). n.key) ns)) (sym e) none-rise
    by-head (n ∷ ns) e = by-default n

-- of different items each has one place
module _ {T : Type 0} (eq : T → T → Bool) (itself : (x : T) → eq x x ≡ true) where
  pub one-place : (items : List T) (i j : ℕ) (x : T) → IsDistinct eq items → slice_get items i ≡ Some x → slice_get items j ≡ Some x → i ≡ j
  one-place items i j x distinct at there =
      ⊎_elim
      (λ same. same)
      (λ other. ⊎_elim
      (λ less. absurd (apart i j at there less))
      (λ more. absurd (apart j i there at more))
      other)
      (cases_order i j)
    where
      apart : (a b : ℕ) → slice_get items a ≡ Some x → slice_get items b ≡ Some x → a < b → ⊥
      apart a b first next less =
          let off : eq (get_or items a x) (get_or items b x) ≡ false = apart_from_distinct eq items a b x distinct less (slice_get_within items b x next) in
          let on : eq (get_or items a x) (get_or items b x) ≡ true = (λ i. eq (get_or_from_slice_get items a x x first i) (get_or_from_slice_get items b x x next i)) ∙ itself x in
          true≢false (sym on ∙ off)
