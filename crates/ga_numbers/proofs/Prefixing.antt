-- Rows whose prefixes are among different ones represent items that are the same exactly where the rows are. So items are noted
-- as their rows are, and have the same numbers.
use Rattle.std.proofs.Common.{◌≡◌, ℕ, ◌+◌, ◌<◌, Bool, ◌||◌, not, cond, List, [], ◌∷◌, length, get_or, map, refl, sym, ap, ◌∙◌, arith, ⊎_elim}
use Rattle.std.specs.Cmp.{IsEquivalence}
use Rattle.std.specs.List.{All, IsDistinct, list_any, position_or_len}
use Rattle.std.proofs.lemmas.Bool.{cases_Bool, cases_lt, cond-true, cond-false, true≢false}
use Rattle.std.proofs.lemmas.List.{length-map, map_push, get_or-map}
use Rattle.std.proofs.lemmas.List.Elements.{All-head, All-tail, All-push}
use Rattle.std.proofs.lemmas.Map.Keys.{IsDistinct-from_apart, apart_from_distinct}
use Rattle.ga_numbers.specs.NotedNumbers.{places_of}
use Rattle.ga_numbers.proofs.Noted.{noted-cases}
use Rattle.ga_shards.specs.Numbers.{noted, place_of}
use Rattle.ga_shards.specs.Steps.{all_noted}

-- a test of a list is the test of what it represents
module _ {A B : Type 0} (f : A → B) (p : A → Bool) (q : B → Bool) where
  abbrev Agree : A → Type 0
  Agree x = p x ≡ q (f x)

  any-mapped : (xs : List A) → All Agree xs → list_any p xs ≡ list_any q (map f xs)
  any-mapped [] same = refl
  any-mapped (x ∷ xs) same = λ i. All-head Agree x xs same i || any-mapped xs (All-tail Agree x xs same) i

  place-mapped : (xs : List A) → All Agree xs → position_or_len p xs ≡ position_or_len q (map f xs)
  place-mapped [] same = refl
  place-mapped (x ∷ xs) same = λ i. cond (not (All-head Agree x xs same i)) (1 + place-mapped xs (All-tail Agree x xs same) i) 0

-- different items are told apart by their places
pub place-told : {F : Type 0} (eq : F → F → Bool) → IsEquivalence eq → (prefixes : List F) → IsDistinct eq prefixes → (i j : ℕ) (d : F) → i < length prefixes → j < length prefixes
    → get_or prefixes i d ≡ get_or prefixes j d → i ≡ j
place-told eq laws prefixes different i j d within within-too same =
    ⊎_elim
    (λ less. absurd (true≢false (sym (ap (eq (get_or prefixes i d)) (sym same) ∙ laws.refl _) ∙ apart_from_distinct eq prefixes i j d different less within-too)))
    (λ past. ⊎_elim
    (λ less. absurd (true≢false (sym (ap (eq (get_or prefixes j d)) same ∙ laws.refl _) ∙ apart_from_distinct eq prefixes j i d different less within)))
    (λ over. let e : i ≡ j = omega arith in e)
    (cases_lt j i))
    (cases_lt i j)

-- items that represent others, by which tests agree
module _ {A B : Type 0} (f : A → B) (eqA : A → A → Bool) (eqB : B → B → Bool) (Fine : A → Type 0) (agree : (a b : A) → Fine a → Fine b → eqA a b ≡ eqB (f a) (f b)) where
  agrees : (xs : List A) (x : A) → All Fine xs → Fine x → All (λ y. eqA x y ≡ eqB (f x) (f y)) xs
  agrees xs x fine one k d within = agree x (get_or xs k d) one (fine k d within)

  pub place-along : (xs : List A) (x : A) → All Fine xs → Fine x → place_of eqA xs x ≡ place_of eqB (map f xs) (f x)
  place-along xs x fine one = place-mapped f (eqA x) (eqB (f x)) xs (agrees xs x fine one)

  pub noted-along : (xs : List A) (x : A) → All Fine xs → Fine x → map f (noted eqA xs x) ≡ noted eqB (map f xs) (f x)
  noted-along xs x fine one =
      let same : list_any (eqA x) xs ≡ list_any (eqB (f x)) (map f xs) = any-mapped f (eqA x) (eqB (f x)) xs (agrees xs x fine one) in
      ⊎_elim
      (λ there. ap (map f) (cond-true _ _ _ there) ∙ sym (cond-true _ _ _ (sym same ∙ there)))
      (λ absent. ap (map f) (cond-false _ _ _ absent) ∙ map_push f xs x ∙ sym (cond-false _ _ _ (sym same ∙ absent)))
      (cases_Bool (list_any (eqA x) xs))

  pub noted-fine : (xs : List A) (x : A) → All Fine xs → Fine x → All Fine (noted eqA xs x)
  noted-fine xs x fine one = noted-cases eqA (All Fine) xs x (λ _. fine) (λ _. All-push Fine xs x fine one)

  pub all-noted-along : (more xs : List A) → All Fine xs → All Fine more → map f (all_noted eqA xs more) ≡ all_noted eqB (map f xs) (map f more)
  all-noted-along [] xs fine others = refl
  all-noted-along (x ∷ more) xs fine others =
      let one = All-head Fine x more others in
      all-noted-along more (noted eqA xs x) (noted-fine xs x fine one) (All-tail Fine x more others)
      ∙ ap (λ l. all_noted eqB l (map f more)) (noted-along xs x fine one)

  pub places-along : (more xs : List A) → All Fine xs → All Fine more → places_of eqA xs more ≡ places_of eqB (map f xs) (map f more)
  places-along [] xs fine others = refl
  places-along (x ∷ more) xs fine others =
      let one = All-head Fine x more others in
      let rest = places-along more (noted eqA xs x) (noted-fine xs x fine one) (All-tail Fine x more others) in
      (λ i. place-along xs x fine one i ∷ rest i)
      ∙ ap (λ l. place_of eqB (map f xs) (f x) ∷ places_of eqB l (map f more)) (noted-along xs x fine one)

  pub distinct-along : (xs : List A) → All Fine xs → IsDistinct eqA xs → IsDistinct eqB (map f xs)
  unfolding IsDistinct
  distinct-along [] fine different = different
  distinct-along (x ∷ xs) fine different = IsDistinct-from_apart eqB (map f (x ∷ xs)) (λ i j d less within.
      let long = length-map (x ∷ xs) f in
      let in-j : j < length (x ∷ xs) = omega (arith, within, long) in
      let in-i : i < length (x ∷ xs) = omega (arith, less, in-j) in
      (λ k. eqB (get_or-map f (x ∷ xs) i x d in-i k) (get_or-map f (x ∷ xs) j x d in-j k))
      ∙ sym (agree (get_or (x ∷ xs) i x) (get_or (x ∷ xs) j x) (fine i x in-i) (fine j x in-j))
      ∙ apart_from_distinct eqA (x ∷ xs) i j x different less in-j)
