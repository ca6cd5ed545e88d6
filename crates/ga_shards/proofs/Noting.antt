-- Lists in which no two items are equal, after more was noted.
use Rattle.std.proofs.Common.{◌≡◌, ◌+◌, ◌<◌, ◌≤◌, Bool, true, false, ◌||◌, List, [], ◌∷◌, ◌++◌, length, get_or, refl, sym, ap, ◌∙◌, subst, arith, length-append, ⊎_elim}
use Rattle.std.proofs.lemmas.Bool.{cases_Bool, cases_lt, cond-true, cond-false, true≢false}
use Rattle.std.proofs.lemmas.List.Folds.{list_any-append, Any-from_list_any}
use Rattle.std.proofs.lemmas.List.Sums.{fails_before_first}
use Rattle.std.proofs.lemmas.List.Elements.{All-nil, All-cons, All-push, All-head, All-tail}
use Rattle.std.proofs.lemmas.Map.Keys.{IsDistinct-push}
use Rattle.std.specs.Cmp.{IsEquivalence}
use Rattle.std.specs.List.{All, IsDistinct, list_any, position_or_len}
use Rattle.ga_shards.specs.Numbers.{noted}
use Rattle.ga_shards.specs.Steps.{all_noted}

or-true : (b : Bool) → (b || true) ≡ true
or-true true = refl
or-true false = refl

module _ {T : Type 0} (eq : T → T → Bool) where
  -- what holds of the list as it is, and of the list with one item more, holds of the list after the item was noted
  noted-cases : (P : List T → Type 0) (items : List T) (item : T) → (list_any (eq item) items ≡ true → P items)
      → (list_any (eq item) items ≡ false → P (items ++ item ∷ [])) → P (noted eq items item)
  noted-cases P items item same more =
      ⊎_elim
      (λ there. subst P (sym (cond-true _ _ _ there)) (same there))
      (λ absent. subst P (sym (cond-false _ _ _ absent)) (more absent))
      (cases_Bool (list_any (eq item) items))

  pub no-longer : (more items : List T) → length (all_noted eq items more) ≤ length items + length more
  no-longer [] items = omega arith
  no-longer (m ∷ more) items =
      let rest = no-longer more (noted eq items m) in
      let one : length (noted eq items m) ≤ length items + 1 =
      noted-cases (λ l. length l ≤ length items + 1) items m (λ _. omega arith) (λ _. omega (arith, length-append items (m ∷ []))) in
      omega arith

module _ {T : Type 0} (eq : T → T → Bool) (laws : IsEquivalence eq) where
  keeps-one : (items : List T) (item x : T) → list_any (eq x) items ≡ true → list_any (eq x) (noted eq items item) ≡ true
  keeps-one items item x has =
      noted-cases eq (λ l. list_any (eq x) l ≡ true) items item (λ _. has)
      (λ _. list_any-append (eq x) items (item ∷ []) ∙ ap (λ b. b || list_any (eq x) (item ∷ [])) has)

  has-one : (items : List T) (item : T) → list_any (eq item) (noted eq items item) ≡ true
  has-one items item =
      noted-cases eq (λ l. list_any (eq item) l ≡ true) items item (λ there. there)
      (λ _. list_any-append (eq item) items (item ∷ [])
      ∙ ap (λ b. list_any (eq item) items || (b || false)) (laws.refl item)
      ∙ or-true (list_any (eq item) items))

  keeps : (more items : List T) (x : T) → list_any (eq x) items ≡ true → list_any (eq x) (all_noted eq items more) ≡ true
  keeps [] items x has = has
  keeps (m ∷ more) items x has = keeps more (noted eq items m) x (keeps-one items m x has)

  -- each item that was noted is there
  pub has-all : (more items : List T) → All (λ x. list_any (eq x) (all_noted eq items more) ≡ true) more
  has-all [] items = All-nil (λ x. list_any (eq x) (all_noted eq items []) ≡ true)
  has-all (m ∷ more) items =
      All-cons (λ x. list_any (eq x) (all_noted eq (noted eq items m) more) ≡ true) m more
      (keeps more (noted eq items m) m (has-one items m)) (has-all more (noted eq items m))

  -- what holds of all items that were there and were noted holds of all that are there
  pub from-all : (P : T → Type 0) (more items : List T) → All P items → All P more → All P (all_noted eq items more)
  from-all P [] items there others = there
  from-all P (m ∷ more) items there others =
      from-all P more (noted eq items m)
      (noted-cases eq (All P) items m (λ _. there) (λ _. All-push P items m there (All-head P m more others)))
      (All-tail P m more others)

  pub stays-distinct : (more items : List T) → IsDistinct eq items → IsDistinct eq (all_noted eq items more)
  stays-distinct [] items distinct = distinct
  stays-distinct (m ∷ more) items distinct =
      stays-distinct more (noted eq items m)
      (noted-cases eq (IsDistinct eq) items m (λ _. distinct) (λ absent. IsDistinct-push laws items m distinct absent))

-- the first that passes is within the list, where any passes
pub first-within : {T : Type 0} (p : T → Bool) (items : List T) → list_any p items ≡ true → position_or_len p items < length items
first-within p items any =
    let found = Any-from_list_any p items any in
    ⊎_elim
    (λ less. less)
    (λ past.
    let k = found.0 in
    let x = found.1 in
    let below : k < length items = found.2 in
    let off : p (get_or items k x) ≡ false = fails_before_first p items k x (omega arith) in
    let on : p (get_or items k x) ≡ true = ap p found.3 ∙ found.4 in
    absurd (true≢false (sym on ∙ off)))
    (cases_lt (position_or_len p items) (length items))
