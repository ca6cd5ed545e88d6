-- A list of different items after one was noted, where items that test as the same are equal.
use Rattle.std.proofs.Common.{◌≡◌, ℕ, ◌+◌, ◌<◌, ◌≤◌, Bool, true, false, cond, not, ◌||◌, ◌⊎◌, inl, inr, List, [], ◌∷◌, ◌++◌, length, Some, refl, sym, ap, ◌∙◌, subst, arith, length-append, ⊎_elim}
use Rattle.std.specs.Prelude.{slice_get}
use Rattle.std.specs.Cmp.{IsEquivalence}
use Rattle.std.specs.List.{All, IsDistinct, list_any}
use Rattle.std.proofs.lemmas.Bool.{cases_Bool, cases_lt, cond-true, cond-false, true≢false}
use Rattle.std.proofs.lemmas.List.{get_or_append_left}
use Rattle.std.proofs.lemmas.List.Elements.{All-push}
use Rattle.std.proofs.lemmas.List.Folds.{list_any-append}
use Rattle.std.proofs.lemmas.Option.{slice_get-get_or, slice_get_within, get_or_from_slice_get}
use Rattle.ga_shards.specs.Numbers.{noted, place_of}
use Rattle.ga_shards.proofs.Noting.{stays-distinct}

pub or-true : (b : Bool) → (b || true) ≡ true
or-true true = refl
or-true false = refl

pub or-false : (b : Bool) → (b || false) ≡ b
or-false true = refl
or-false false = refl

-- an item keeps its place where more come after it
pub get-append : {T : Type 0} (xs ys : List T) (i : ℕ) (x : T) → slice_get xs i ≡ Some x → slice_get (xs ++ ys) i ≡ Some x
get-append xs ys i x e =
    let within : i < length xs = slice_get_within xs i x e in
    slice_get-get_or (xs ++ ys) i x (omega (arith, length-append xs ys))
    ∙ ap Some (get_or_append_left xs ys x i within ∙ get_or_from_slice_get xs i x x e)

module _ {T : Type 0} (eq : T → T → Bool) where
  -- the list as it is, or with the item after it
  pub noted-cases : (P : List T → Type 0) (items : List T) (item : T) → (list_any (eq item) items ≡ true → P items)
      → (list_any (eq item) items ≡ false → P (items ++ item ∷ [])) → P (noted eq items item)
  noted-cases P items item same more =
      ⊎_elim
      (λ there. subst P (sym (cond-true _ _ _ there)) (same there))
      (λ absent. subst P (sym (cond-false _ _ _ absent)) (more absent))
      (cases_Bool (list_any (eq item) items))

  -- what holds of all items, and of the one that was noted, holds of all that are there
  pub noted-all : (P : T → Type 0) (items : List T) (item : T) → All P items → P item → All P (noted eq items item)
  noted-all P items item all one = noted-cases (All P) items item (λ _. all) (λ _. All-push P items item all one)

  -- where none passes, the first that passes is the end
  pub place-absent : (items : List T) (item : T) → list_any (eq item) items ≡ false → place_of eq items item ≡ length items
  place-absent [] item e = refl
  place-absent (x ∷ items) item e =
      elim (eq item x) as (λ v. (v || list_any (eq item) items) ≡ false → cond (not v) (1 + place_of eq items item) 0 ≡ length (x ∷ items)) [
        | true ↦ λ there. absurd (true≢false there)
        | false ↦ λ absent. let rest = place-absent items item absent in omega arith
      ] e

  -- no list is shorter after it
  pub grows : (items : List T) (item : T) → length items ≤ length (noted eq items item)
  grows items item = noted-cases (λ l. length items ≤ length l) items item (λ _. omega arith) (λ _. omega (arith, length-append items (item ∷ [])))

  pub kept : (items : List T) (item : T) (i : ℕ) (x : T) → slice_get items i ≡ Some x → slice_get (noted eq items item) i ≡ Some x
  kept items item i x e = noted-cases (λ l. slice_get l i ≡ Some x) items item (λ _. e) (λ _. get-append items (item ∷ []) i x e)

  -- a place in the new list is one in the old, or that of the item
  pub place-cases : (items : List T) (item : T) (i : ℕ) → i < length (noted eq items item) → (i < length items) ⊎ (i ≡ place_of eq items item)
  place-cases items item i =
      noted-cases (λ l. i < length l → (i < length items) ⊎ (i ≡ place_of eq items item)) items item (λ _ lt. inl lt)
      (λ absent lt.
      let end = place-absent items item absent in
      let long = length-append items (item ∷ []) in
      ⊎_elim (λ less. inl less) (λ past. let same : i ≡ place_of eq items item = omega arith in inr same) (cases_lt i (length items)))

  module _ (exact : (x y : T) → eq x y ≡ true → x ≡ y) where
    pub any-noted : (items : List T) (item x : T) → list_any (eq x) (noted eq items item) ≡ (list_any (eq x) items || eq x item)
    any-noted items item x =
        noted-cases (λ l. list_any (eq x) l ≡ (list_any (eq x) items || eq x item)) items item
        (λ there. go there (eq x item) refl)
        (λ _. list_any-append (eq x) items (item ∷ []) ∙ ap (λ b. list_any (eq x) items || b) (or-false (eq x item)))
      where
        go : list_any (eq item) items ≡ true → (b : Bool) → eq x item ≡ b → list_any (eq x) items ≡ (list_any (eq x) items || b)
        go there true is =
            let here : list_any (eq x) items ≡ true = subst (λ y. list_any (eq y) items ≡ true) (sym (exact x item is)) there in
            here ∙ sym (or-true (list_any (eq x) items))
        go there false is = sym (or-false _)

  module _ (laws : IsEquivalence eq) where
    pub noted-distinct : (items : List T) (item : T) → IsDistinct eq items → IsDistinct eq (noted eq items item)
    noted-distinct items item d = stays-distinct eq laws (item ∷ []) items d
