-- Lists of items that are noted one after the other.
use Rattle.std.proofs.Common.{◌≡◌, ◌<◌, ℕ, zero, suc, Bool, true, List, [], ◌∷◌, ◌++◌, length, get_or, None, Some, refl, ap, sym, subst, ◌∙◌, arith}
use Rattle.std.specs.Prelude.{slice_get}
use Rattle.std.specs.List.{All, flat_map}
use Rattle.std.proofs.lemmas.List.Elements.{All-head, All-tail}
use Rattle.std.proofs.lemmas.Option.{get_or_from_slice_get, slice_get_within}
use Rattle.ga_numbers.specs.NotedNumbers.{AreNoted, AreNotedInTurn, all_in_turn, numbers_in_turn, places_of}
use Rattle.ga_numbers.proofs.AllNoted.{has-number, keeps-place, placed, places-long}
use Rattle.ga_shards.specs.Numbers.{noted}
use Rattle.ga_shards.specs.Steps.{all_noted}

-- each list has its numbers
pub numbers-many : {T : Type 0} (same : T → T → Bool) (known : List T) (others : List (List T)) → length (numbers_in_turn same known others) ≡ length others
numbers-many same known [] = omega arith
numbers-many same known (more ∷ others) = omega (arith, numbers-many same (all_noted same known more) others)

-- what is at a number stays there
pub kept-in-turn : {T : Type 0} (same : T → T → Bool) (known : List T) (others : List (List T)) (n : ℕ) (x : T) → slice_get known n ≡ Some x → slice_get (all_in_turn same known others) n ≡ Some x
kept-in-turn same known [] n x there = there
kept-in-turn same known (more ∷ others) n x there = kept-in-turn same (all_noted same known more) others n x (keeps-place same more known n x there)

-- a number that one of other items gets is that of an item then
pub numbered-within : {T : Type 0} (same : T → T → Bool) → ((a b : T) → same a b ≡ true → a ≡ b) → (known more : List T) (others : List (List T)) (k n : ℕ) → slice_get (places_of same known more) k ≡ Some n
    → n < length (all_in_turn same (all_noted same known more) others)
numbered-within same equal known more others k n has =
    let within : k < length more = omega (arith, slice_get_within (places_of same known more) k n has, places-long same more known) in
    let item = at-place more k within in
    let there = placed same equal more known k n item.0 item.1 has in
    slice_get_within _ n item.0 (kept-in-turn same (all_noted same known more) others n item.0 there)
  where
    at-place : {T : Type 0} (xs : List T) (k : ℕ) → k < length xs → (x : T) × (slice_get xs k ≡ Some x)
    at-place [] k lt = absurd (omega (arith, lt))
    at-place (x ∷ xs) zero lt = (x, refl)
    at-place (x ∷ xs) (suc k) lt = at-place xs k (omega (arith, lt))

pub no-lists : {T : Type 0} (xs : List T) → length xs ≡ 0 → xs ≡ []
no-lists [] none = refl
no-lists (x ∷ xs) none = absurd (omega (arith, none))

module _ {T : Type 0} (same : T → T → Bool) where
  all-noted-append : (xs ys known : List T) → all_noted same known (xs ++ ys) ≡ all_noted same (all_noted same known xs) ys
  all-noted-append [] ys known = refl
  all-noted-append (x ∷ xs) ys known = all-noted-append xs ys (noted same known x)

  -- lists are noted as all their items are
  pub flat-in-turn : (lists : List (List T)) (known : List T) → all_in_turn same known lists ≡ all_noted same known (flat_map (λ l. l) lists)
  flat-in-turn [] known = refl
  flat-in-turn (more ∷ lists) known = flat-in-turn lists (all_noted same known more) ∙ sym (all-noted-append more (flat_map (λ l. l) lists) known)

  all-push : (lists : List (List T)) (more known : List T) → all_in_turn same known (lists ++ more ∷ []) ≡ all_noted same (all_in_turn same known lists) more
  all-push [] more known = refl
  all-push (list ∷ lists) more known = all-push lists more (all_noted same known list)

  numbers-push : (lists : List (List T)) (more known : List T) → numbers_in_turn same known (lists ++ more ∷ []) ≡ numbers_in_turn same known lists ++ places_of same (all_in_turn same known lists) more ∷ []
  numbers-push [] more known = refl
  numbers-push (list ∷ lists) more known = ap (λ (l : List (List ℕ)). places_of same known list ∷ l) (numbers-push lists more (all_noted same known list))

  -- one list more was noted after the others
  pub turn-more : (lists : List (List T)) (more : List T) (numbers : List (List ℕ)) (places : List ℕ) (old now new : List T) → AreNotedInTurn same lists numbers old now → AreNoted same more places now new
      → AreNotedInTurn same (lists ++ more ∷ []) (numbers ++ places ∷ []) old new
  turn-more lists more numbers places old now new so_far one = record {
    places =
        (λ i. so_far.places i ++ (one.places ∙ ap (λ (l : List T). places_of same l more) so_far.known) i ∷ [])
        ∙ sym (numbers-push lists more old);
    known = one.known ∙ ap (λ (l : List T). all_noted same l more) so_far.known ∙ sym (all-push lists more old);
  }

  -- lists without items
  pub nothing-in-turn : (lists : List (List T)) (numbers : List (List ℕ)) (known : List T) → All (λ l. l ≡ []) lists → All (λ l. l ≡ []) numbers → length numbers ≡ length lists
      → AreNotedInTurn same lists numbers known known
  nothing-in-turn [] [] known none no-numbers long = record { places = refl; known = refl }
  nothing-in-turn [] (n ∷ numbers) known none no-numbers long = absurd (omega (arith, long))
  nothing-in-turn (l ∷ lists) [] known none no-numbers long = absurd (omega (arith, long))
  nothing-in-turn (l ∷ lists) (n ∷ numbers) known none no-numbers long =
      let here : l ≡ [] = All-head (λ (x : List T). x ≡ []) l lists none in
      let no-number : n ≡ [] = All-head (λ (x : List ℕ). x ≡ []) n numbers no-numbers in
      let rest = nothing-in-turn lists numbers known (All-tail (λ (x : List T). x ≡ []) l lists none) (All-tail (λ (x : List ℕ). x ≡ []) n numbers no-numbers) (omega (arith, long)) in
      let same-known : known ≡ all_noted same known l = ap (all_noted same known) (sym here) in
      record {
        places = λ i. (no-number ∙ ap (places_of same known) (sym here)) i ∷ (rest.places ∙ ap (λ (k : List T). numbers_in_turn same k lists) same-known) i;
        known = rest.known ∙ ap (λ (k : List T). all_in_turn same k lists) same-known;
      }

  -- each item of each list is at its number
  pub placed-in-turn : ((a b : T) → same a b ≡ true → a ≡ b) → (lists : List (List T)) (known : List T) (i k : ℕ) (x : T) → slice_get (get_or lists i []) k ≡ Some x
      → slice_get (all_in_turn same known lists) (get_or (get_or (numbers_in_turn same known lists) i []) k 0) ≡ Some x
  placed-in-turn equal [] known i k x at = let off : None ≡ Some x = at in absurd (cc off)
  placed-in-turn equal (more ∷ lists) known zero k x at =
      let has = has-number same more known k x at in
      subst (λ n. slice_get (all_in_turn same (all_noted same known more) lists) n ≡ Some x) (sym (get_or_from_slice_get (places_of same known more) k has.0 0 has.1))
      (kept-in-turn same (all_noted same known more) lists has.0 x (placed same equal more known k has.0 x at has.1))
  placed-in-turn equal (more ∷ lists) known (suc i) k x at = placed-in-turn equal lists (all_noted same known more) i k x at
