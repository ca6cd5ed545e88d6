-- Keys with their numbers.
use Rattle.std.proofs.Common.{◌≡◌, ℕ, suc, ◌+◌, ◌<◌, List, [], ◌∷◌, ◌++◌, Some, length, get_or, map, take, refl, sym, ap, ◌∙◌, subst, arith}
use Rattle.std.specs.Prelude.{slice_get}
use Rattle.std.specs.List.{All}
use Rattle.std.specs.List.Sorted.{IsPermutation, IsSorted}
use Rattle.std.proofs.lemmas.List.{map_push, take_more}
use Rattle.std.specs.Cmp.{IsTotalOrder}
use Rattle.std.proofs.lemmas.Cmp.{on_total}
use Rattle.std.proofs.lemmas.List.Elements.{All-cons, All-map, All-push}
use Rattle.std.proofs.lemmas.List.Sorted.{All-permutation, IsPermutation-map}
use Rattle.std.proofs.lemmas.Option.{slice_get-get_or}
use Rattle.std.proofs.lemmas.Simd.{map-map}
use Rattle.ga_base.specs.declared.key.Key.{Key}
use Rattle.ga_base.proofs.OrderLemmas.{key_cmp_total}
use Rattle.ga_report.proofs.Sorting.{in-order, in-order-same, in-order-sorted}
use Rattle.ga_totals.specs.Steps.KeyRows.{AreByKey, NumberedKey, number_cmp}

abbrev key_of : NumberedKey → Key
key_of n = n.key

module _ (keys : List Key) where
  -- the first keys have their numbers
  pub record AreFirst (i : ℕ) (all : List NumberedKey) : Type 0 where
    pub keys_are : map (λ n. n.key) all ≡ take i keys
    pub numbers : All (λ n. slice_get keys n.number ≡ Some n.key) all

  pub first-more : (all : List NumberedKey) (i : ℕ) (key : Key) → i < length keys → key ≡ get_or keys i key → map (λ n. n.key) all ≡ take i keys
      → All (λ n. slice_get keys n.number ≡ Some n.key) all → AreFirst (i + 1) (all ++ record { number = i; key = key } ∷ [])
  first-more all i key within is are numbers = record {
    keys_are = map_push key_of all (record { number = i; key = key }) ∙ ap (λ (l : List Key). l ++ key ∷ []) are ∙ sym whole;
    numbers = All-push (λ n. slice_get keys n.number ≡ Some n.key) all (record { number = i; key = key }) numbers (slice_get-get_or keys i key within ∙ ap Some (sym is));
  }
    where
      whole : take (i + 1) keys ≡ take i keys ++ key ∷ []
      whole = take_more keys i key within ∙ ap (λ (k : Key). take i keys ++ k ∷ []) (sym is)

  pub sorted-by-key : (all sorted : List NumberedKey) → map (λ n. n.key) all ≡ keys → All (λ n. slice_get keys n.number ≡ Some n.key) all → IsPermutation all sorted
      → IsSorted number_cmp sorted → AreByKey keys sorted
  sorted-by-key all sorted are numbers moved rise = record {
    same = subst (λ (l : List Key). IsPermutation l (map key_of sorted)) are (IsPermutation-map key_of all sorted moved);
    numbers = All-permutation (λ n. slice_get keys n.number ≡ Some n.key) all sorted moved numbers;
    sorted = rise;
  }

-- the same key, of the next number
abbrev pub next : NumberedKey → NumberedKey
next n = record { number = suc n.number; key = n.key }

-- keys with their numbers, in the order of the numbers
abbrev pub numbered : List Key → List NumberedKey
numbered [] = []
numbered (key ∷ keys) = record { number = 0; key = key } ∷ map next (numbered keys)

keys-kept : (keys : List Key) → map key_of (numbered keys) ≡ keys
keys-kept [] = refl
keys-kept (key ∷ keys) = ap (λ (l : List Key). key ∷ l) (map-map key_of next (numbered keys) ∙ keys-kept keys)

pub numbers-stand : (keys : List Key) → All (λ n. slice_get keys n.number ≡ Some n.key) (numbered keys)
numbers-stand [] = λ k d less. absurd (omega arith)
numbers-stand (key ∷ keys) = All-cons (λ n. slice_get (key ∷ keys) n.number ≡ Some n.key) (record { number = 0; key = key }) (map next (numbered keys)) refl
    (All-map (λ n. slice_get (key ∷ keys) n.number ≡ Some n.key) next (numbered keys) (numbers-stand keys))

key-order : IsTotalOrder number_cmp
key-order = on_total key_of key_cmp_total

-- and in the order of the keys
pub by-key : List Key → List NumberedKey
by-key keys = in-order number_cmp key-order (numbered keys)

pub by-key-same : (keys : List Key) → IsPermutation (numbered keys) (by-key keys)
unfolding by-key
by-key-same keys = in-order-same number_cmp key-order (numbered keys)

pub are-by-key : (keys : List Key) → AreByKey keys (by-key keys)
unfolding by-key
are-by-key keys = sorted-by-key keys (numbered keys) (by-key keys) (keys-kept keys) (numbers-stand keys) (by-key-same keys) (in-order-sorted number_cmp key-order (numbered keys))
