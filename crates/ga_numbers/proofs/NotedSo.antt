-- What a dictionary says of an item, where items that test as the same are equal.
use Rattle.std.proofs.Common.{◌≡◌, ℕ, ◌<◌, Bool, true, false, List, length, get_or, Some, sym, ap, ◌∙◌, arith}
use Rattle.std.specs.Prelude.{slice_get}
use Rattle.std.specs.Cmp.{IsEquivalence}
use Rattle.std.specs.List.{IsDistinct}
use Rattle.std.proofs.lemmas.Bool.{cond-true}
use Rattle.std.proofs.lemmas.List.Sums.{position_or_len_is}
use Rattle.std.proofs.lemmas.Map.Keys.{any_passes_from_place, apart_from_distinct}
use Rattle.std.proofs.lemmas.Option.{slice_get_within, get_or_from_slice_get}
use Rattle.ga_shards.specs.Numbers.{noted, place_of}
use Rattle.ga_numbers.specs.NotedNumbers.{IsNumbered}

-- an item that was noted is at its number
abbrev pub StandsAt : {T : Type 0} → (T → T → Bool) → List T → ℕ → T → Type 0
StandsAt {T} eq items n item = (known : T) × (slice_get items n ≡ Some known) × (eq item known ≡ true)

module _ {T : Type 0} (eq : T → T → Bool) where
  -- by a test that only equals pass, an item was noted
  pub noted-so : ((x y : T) → eq x y ≡ true → x ≡ y) → (item : T) (n : ℕ) (old new : List T) → n ≡ place_of eq old item
      → new ≡ noted eq old item → StandsAt eq new n item → IsNumbered eq item n old new
  noted-so exact item n old new place items (known, stands, same) = record {
    place = place;
    items = items;
    stands = stands ∙ ap Some (sym (exact item known same));
  }

  -- an item that stands among different ones is noted already
  pub stands-so : IsEquivalence eq → (item : T) (n : ℕ) (items : List T) → IsDistinct eq items → slice_get items n ≡ Some item → IsNumbered eq item n items items
  stands-so laws item n items different stands = record {
    place = sym (position_or_len_is (eq item) items n item (omega (arith, within)) before (λ _. here));
    items = sym (cond-true _ _ _ (any_passes_from_place (eq item) items n item stands (laws.refl item)));
    stands = stands;
  }
    where
      within : n < length items
      within = slice_get_within items n item stands

      at : get_or items n item ≡ item
      at = get_or_from_slice_get items n item item stands

      here : eq item (get_or items n item) ≡ true
      here = ap (eq item) at ∙ laws.refl item

      before : (k : ℕ) → k < n → eq item (get_or items k item) ≡ false
      before k less =
          laws.symm item (get_or items k item) ∙ ap (λ (x : T). eq (get_or items k item) x) (sym at)
          ∙ apart_from_distinct eq items k n item different less within
