-- Numbers of items, where items that are the same are equal.
use Rattle.std.proofs.Common.{◌≡◌, ℕ, ◌<◌, Bool, true, List, get_or, Some, sym, ap, ◌∙◌, arith, ⊎_elim}
use Rattle.std.specs.Prelude.{slice_get}
use Rattle.std.specs.List.{IsDistinct}
use Rattle.std.proofs.lemmas.Bool.{cases_lt, true≢false}
use Rattle.std.proofs.lemmas.Map.Keys.{apart_from_distinct}
use Rattle.std.proofs.lemmas.Option.{get_or_from_slice_get, slice_get_within}
use Rattle.ga_shards.specs.Numbers.{IsNumbering, NumberingSeen, item_of}

pub some-inj : {X : Type 0} (x y : X) → Some x ≡ Some y → x ≡ y
some-inj x y e = cc

-- each different item of the lists has one number, and each number one item
pub record AreNumbered {T : Type 0} (lists : List (List T)) (n : NumberingSeen T) : Type 0 where
  pub apart : (i j : ℕ) (x : T) → slice_get n.items i ≡ Some x → slice_get n.items j ≡ Some x → i ≡ j
  pub numbered : (d l : ℕ) (x : T) → item_of lists d l ≡ Some x → (k : ℕ) × (item_of n.numbers d l ≡ Some k) × (slice_get n.items k ≡ Some x)
  pub used : (k : ℕ) (x : T) → slice_get n.items k ≡ Some x → (d : ℕ) × (l : ℕ) × (item_of lists d l ≡ Some x)

module _ {T : Type 0} (eq : T → T → Bool) (itself : (x : T) → eq x x ≡ true) (exact : (x y : T) → eq x y ≡ true → x ≡ y) where
  -- places of one item
  less-apart : (xs : List T) → IsDistinct eq xs → (i j : ℕ) (x : T) → i < j → slice_get xs i ≡ Some x → slice_get xs j ≡ Some x → ⊥
  less-apart xs distinct i j x lt at there =
      let no = apart_from_distinct eq xs i j x distinct lt (slice_get_within xs j x there) in
      let a : get_or xs i x ≡ x = get_or_from_slice_get xs i x x at in
      let b : get_or xs j x ≡ x = get_or_from_slice_get xs j x x there in
      let same : eq (get_or xs i x) (get_or xs j x) ≡ true = (λ t. eq (a t) (b t)) ∙ itself x in
      true≢false (sym same ∙ no)

  pub one-place : (xs : List T) → IsDistinct eq xs → (i j : ℕ) (x : T) → slice_get xs i ≡ Some x → slice_get xs j ≡ Some x → i ≡ j
  one-place xs distinct i j x at there =
      ⊎_elim (λ less. absurd (less-apart xs distinct i j x less at there))
      (λ rest. ⊎_elim (λ more. absurd (less-apart xs distinct j i x more there at)) (λ not. let e : i ≡ j = omega arith in e) (cases_lt j i)) (cases_lt i j)

  pub are-numbered : (lists : List (List T)) (n : NumberingSeen T) → IsNumbering eq lists n → AreNumbered lists n
  are-numbered lists n is = record {
    apart = one-place n.items is.distinct;
    numbered = λ d l x at.
        let (k, known, number, there, same) = is.numbered d l x at in
        (k, number, there ∙ ap Some (sym (exact x known same)));
    used = is.used;
  }
