-- Items that are noted one after the other among different ones, and the numbers that they get.
use Rattle.std.proofs.Common.{◌≡◌, ℕ, suc, zero, ◌<◌, Bool, true, false, ◌||◌, ◌⊎◌, inl, inr, List, [], ◌∷◌, ◌++◌, length, get_or, Some, None, refl, sym, ap, ◌∙◌, subst, arith, length-append, ⊎_elim}
use Rattle.std.specs.Prelude.{slice_get}
use Rattle.std.specs.Cmp.{IsEquivalence}
use Rattle.std.specs.List.{All, IsDistinct, list_any}
use Rattle.std.proofs.lemmas.Bool.{cases_Bool, cond-false, true≢false}
use Rattle.std.proofs.lemmas.List.{append-nil, append_assoc, get_or_append_left}
use Rattle.std.proofs.lemmas.List.Elements.{All-nil, All-cons}
use Rattle.std.proofs.lemmas.Map.Keys.{apart_from_distinct}
use Rattle.std.proofs.Math.Seq.{get_or-append_seam}
use Rattle.std.proofs.lemmas.List.Sums.{passes_at_first}
use Rattle.std.proofs.lemmas.Option.{slice_get-get_or, slice_get_within}
use Rattle.ga_shards.specs.Numbers.{noted, place_of}
use Rattle.ga_shards.specs.Steps.{all_noted}
use Rattle.ga_shards.proofs.Noting.{first-within}
use Rattle.ga_numbers.specs.NotedNumbers.{places_of}
use Rattle.ga_numbers.proofs.Noted.{any-noted, kept, noted-cases, or-false, place-absent, place-cases}

or-associates : (a b c : Bool) → ((a || b) || c) ≡ (a || (b || c))
or-associates true b c = refl
or-associates false b c = refl

module _ {T : Type 0} (eq : T → T → Bool) where
  pub places-long : (items known : List T) → length (places_of eq known items) ≡ length items
  places-long [] known = refl
  places-long (item ∷ items) known = omega (arith, places-long items (noted eq known item))

  -- one item more after the others
  all-noted-push : (items known : List T) (item : T) → all_noted eq known (items ++ item ∷ []) ≡ noted eq (all_noted eq known items) item
  all-noted-push [] known item = refl
  all-noted-push (x ∷ items) known item = all-noted-push items (noted eq known x) item

  places-push : (items known : List T) (item : T) → places_of eq known (items ++ item ∷ []) ≡ places_of eq known items ++ place_of eq (all_noted eq known items) item ∷ []
  places-push [] known item = refl
  places-push (x ∷ items) known item = ap (λ (l : List ℕ). place_of eq known x ∷ l) (places-push items (noted eq known x) item)

  pub noted-more : (items known now new : List T) (item : T) → now ≡ all_noted eq known items → new ≡ noted eq now item → new ≡ all_noted eq known (items ++ item ∷ [])
  noted-more items known now new item before one = one ∙ ap (λ l. noted eq l item) before ∙ sym (all-noted-push items known item)

  pub numbers-more : (items known now : List T) (item : T) (numbers pushed : List ℕ) (n : ℕ) → numbers ≡ places_of eq known items → now ≡ all_noted eq known items → n ≡ place_of eq now item
      → pushed ≡ numbers ++ n ∷ [] → pushed ≡ places_of eq known (items ++ item ∷ [])
  numbers-more items known now item numbers pushed n are noted place push =
      push ∙ ap (λ (l : List ℕ). l ++ n ∷ []) are ∙ ap (λ m. places_of eq known items ++ m ∷ []) (place ∙ ap (λ l. place_of eq l item) noted) ∙ sym (places-push items known item)

  pub has-number : (items known : List T) (k : ℕ) (x : T) → slice_get items k ≡ Some x → (n : ℕ) × (slice_get (places_of eq known items) k ≡ Some n)
  has-number items known k x e =
      let within : k < length (places_of eq known items) = omega (arith, slice_get_within items k x e, places-long items known) in
      (get_or (places_of eq known items) k 0, slice_get-get_or (places_of eq known items) k 0 within)

  -- what was known keeps its number
  pub keeps-place : (items known : List T) (i : ℕ) (x : T) → slice_get known i ≡ Some x → slice_get (all_noted eq known items) i ≡ Some x
  keeps-place [] known i x e = e
  keeps-place (item ∷ items) known i x e = keeps-place items (noted eq known item) i x (kept eq known item i x e)

  -- a number is one that was there, or that of an item
  pub number-cases : (items known : List T) (i : ℕ) → i < length (all_noted eq known items) → (i < length known) ⊎ ((k : ℕ) × (slice_get (places_of eq known items) k ≡ Some i))
  number-cases [] known i lt = inl lt
  number-cases (item ∷ items) known i lt =
      ⊎_elim
      (λ less. ⊎_elim (λ old. inl old) (λ it. inr (0, ap Some (sym it))) (place-cases eq known item i less))
      (λ behind. inr (suc behind.0, behind.1))
      (number-cases items (noted eq known item) i lt)

  -- an item after different ones isn't among them
  new : IsEquivalence eq → (item : T) (items known : List T) → IsDistinct eq (known ++ item ∷ items) → list_any (eq item) known ≡ false
  new laws item items known different =
      ⊎_elim
      (λ there.
      let k = place_of eq known item in
      let within : k < length known = first-within (eq item) known there in
      let behind : length known < length (known ++ item ∷ items) = omega (arith, length-append known (item ∷ items)) in
      let apart = apart_from_distinct eq (known ++ item ∷ items) k (length known) item different within behind in
      let off : eq (get_or known k item) item ≡ false = sym (λ i. eq (get_or_append_left known (item ∷ items) item k within i) (get_or-append_seam known item items item i)) ∙ apart in
      absurd (true≢false (sym (passes_at_first (eq item) known item within) ∙ laws.symm item (get_or known k item) ∙ off)))
      (λ absent. absent)
      (cases_Bool (list_any (eq item) known))

  module _ (exact : (x y : T) → eq x y ≡ true → x ≡ y) where
    pub any-all-noted : (items known : List T) (x : T) → list_any (eq x) (all_noted eq known items) ≡ (list_any (eq x) known || list_any (eq x) items)
    any-all-noted [] known x = sym (or-false _)
    any-all-noted (item ∷ items) known x =
        any-all-noted items (noted eq known item) x ∙ ap (λ b. b || list_any (eq x) items) (any-noted eq exact known item x)
        ∙ or-associates (list_any (eq x) known) (eq x item) (list_any (eq x) items)

    stands : (known : List T) (item : T) → slice_get (noted eq known item) (place_of eq known item) ≡ Some item
    stands known item = noted-cases eq (λ l. slice_get l (place_of eq known item) ≡ Some item) known item there behind
      where
        at : ℕ
        at = place_of eq known item

        there : list_any (eq item) known ≡ true → slice_get known (place_of eq known item) ≡ Some item
        there any =
            let within : at < length known = first-within (eq item) known any in
            slice_get-get_or known at item within ∙ ap Some (sym (exact item _ (passes_at_first (eq item) known item within)))

        behind : list_any (eq item) known ≡ false → slice_get (known ++ item ∷ []) (place_of eq known item) ≡ Some item
        behind absent =
            let end : at ≡ length known = place-absent eq known item absent in
            let within : length known < length (known ++ item ∷ []) = omega (arith, length-append known (item ∷ [])) in
            subst (λ n. slice_get (known ++ item ∷ []) n ≡ Some item) (sym end)
            (slice_get-get_or (known ++ item ∷ []) (length known) item within ∙ ap Some (get_or-append_seam known item [] item))

    -- each number is one of those that are there
    pub places-within : (items known : List T) → All (λ n. n < length (all_noted eq known items)) (places_of eq known items)
    places-within [] known = All-nil (λ n. n < length known)
    places-within (item ∷ items) known =
        All-cons (λ n. n < length (all_noted eq (noted eq known item) items)) (place_of eq known item) (places_of eq (noted eq known item) items)
        (slice_get_within (all_noted eq (noted eq known item) items) (place_of eq known item) item (keeps-place items (noted eq known item) (place_of eq known item) item (stands known item)))
        (places-within items (noted eq known item))

    -- different items are noted as they are, after others from which they differ
    pub noted-whole : IsEquivalence eq → (items known : List T) → IsDistinct eq (known ++ items) → all_noted eq known items ≡ known ++ items
    noted-whole laws [] known different = sym (append-nil known)
    noted-whole laws (item ∷ items) known different =
        let absent : list_any (eq item) known ≡ false = new laws item items known different in
        ap (λ l. all_noted eq l items) (cond-false _ _ _ absent)
        ∙ noted-whole laws items (known ++ item ∷ []) (subst (IsDistinct eq) (sym (append_assoc known (item ∷ []) items)) different)
        ∙ append_assoc known (item ∷ []) items

    -- an item is at its number
    pub placed : (items known : List T) (k n : ℕ) (x : T) → slice_get items k ≡ Some x → slice_get (places_of eq known items) k ≡ Some n → slice_get (all_noted eq known items) n ≡ Some x
    placed [] known k n x e p = let off : None ≡ Some x = e in absurd (cc off)
    placed (item ∷ items) known zero n x e p =
        let here : item ≡ x = cc in
        let at : place_of eq known item ≡ n = cc in
        keeps-place items (noted eq known item) n x (subst (λ m. slice_get (noted eq known item) m ≡ Some x) at (stands known item ∙ ap Some here))
    placed (item ∷ items) known (suc k) n x e p = placed items (noted eq known item) k n x e p
