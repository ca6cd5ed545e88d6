-- Numbers that are set in one list of several.
use Rattle.std.proofs.Common.{◌≡◌, ℕ, ◌<◌, List, [], length, get_or, set, map, Some, ◌⊎◌, inl, inr, sym, ap, ◌∙◌, subst, arith, ⊎_elim}
use Rattle.std.specs.Prelude.{slice_get}
use Rattle.std.proofs.lemmas.Bool.{cases_lt}
use Rattle.std.proofs.lemmas.List.{get_or-map, get_or-set_same, get_or-set_other, length-map, length-set, map-set}
use Rattle.ga_shards.specs.Numbers.{item_of}

same-or-other : (i j : ℕ) → (i ≡ j) ⊎ (i ≡ j → ⊥)
same-or-other i j =
    ⊎_elim
    (λ less. inr (λ same. absurd (omega (arith, less, same))))
    (λ past. ⊎_elim
    (λ less. inr (λ same. absurd (omega (arith, less, same))))
    (λ over. let same : i ≡ j = omega (arith, past, over) in inl same)
    (cases_lt j i))
    (cases_lt i j)

module _ {T : Type 0} (xs : List (List T)) (s : ℕ) (y : List T) (within : s < length xs) where
  -- what the list says that was set
  pub set-here : (l : ℕ) (x : T) → slice_get y l ≡ Some x → item_of (set xs s y) s l ≡ Some x
  set-here l x at = subst (λ (ys : List T). slice_get ys l ≡ Some x) (sym (get_or-set_same xs s y [] within)) at

  -- what was in it and stays, and what is in others
  pub set-keeps : (Stays : ℕ → Type 0) → ((l : ℕ) (x : T) → Stays l → slice_get (get_or xs s []) l ≡ Some x → slice_get y l ≡ Some x)
      → (t l : ℕ) (x : T) → (t ≡ s → Stays l) → item_of xs t l ≡ Some x → item_of (set xs s y) t l ≡ Some x
  set-keeps Stays kept t l x stays at =
      ⊎_elim
      (λ same. subst (λ k. item_of (set xs s y) k l ≡ Some x) (sym same) (set-here l x (kept l x (stays same) (subst (λ k. item_of xs k l ≡ Some x) same at))))
      (λ other. subst (λ (ys : List T). slice_get ys l ≡ Some x) (sym (get_or-set_other xs s t y [] other)) at)
      (same-or-other t s)

-- the same of what the lists are read from
module _ {X : Type 0} (f : X → List ℕ) (all : List X) (s : ℕ) (within : s < length all) where
  pub reads : (r : X) → r ≡ get_or all s r → get_or (map f all) s [] ≡ f r
  reads r is = get_or-map f all s r [] within ∙ ap f (sym is)

  inside : s < length (map f all)
  inside = omega (arith, within, length-map all f)

  pub set-once : (r y : X) → r ≡ get_or all s r → ((k n : ℕ) → slice_get (f r) k ≡ Some n → slice_get (f y) k ≡ Some n)
      → (t l n : ℕ) → item_of (map f all) t l ≡ Some n → item_of (map f (set all s y)) t l ≡ Some n
  set-once r y is kept t l n at =
      subst (λ (xs : List (List ℕ)). item_of xs t l ≡ Some n) (sym (map-set f all s y))
      (set-keeps (map f all) s (f y) inside (λ _. ℕ) (λ k m _ here. kept k m (subst (λ (ys : List ℕ). slice_get ys k ≡ Some m) (reads r is) here)) t l n (λ _. 0) at)

module _ {X : Type 0} (f : X → List ℕ) (all : List X) (s : ℕ) (within : s < length all) (r y r-2 z : X) (local number : ℕ) (is : r ≡ get_or all s r) (is-2 : r-2 ≡ get_or (set all s y) s r-2)
    (kept : (k n : ℕ) → slice_get (f r) k ≡ Some n → slice_get (f y) k ≡ Some n) (same : (k n : ℕ) → (k ≡ local → ⊥) → slice_get (f r-2) k ≡ Some n → slice_get (f z) k ≡ Some n) where
  set-within : s < length (set all s y)
  set-within = omega (arith, within, length-set all s y)

  pub twice-here : slice_get (f z) local ≡ Some number → item_of (map f (set (set all s y) s z)) s local ≡ Some number
  twice-here here = subst (λ (xs : List (List ℕ)). item_of xs s local ≡ Some number) (sym (map-set f (set all s y) s z)) (set-here (map f (set all s y)) s (f z) (inside f (set all s y) s set-within) local number here)

  pub twice-keeps : (t l n : ℕ) → ((t ≡ s) × (l ≡ local) → ⊥) → item_of (map f all) t l ≡ Some n → item_of (map f (set (set all s y) s z)) t l ≡ Some n
  twice-keeps t l n other at =
      subst (λ (xs : List (List ℕ)). item_of xs t l ≡ Some n) (sym (map-set f (set all s y) s z))
      (set-keeps (map f (set all s y)) s (f z) (inside f (set all s y) s set-within) (λ k. k ≡ local → ⊥)
      (λ k m off here. same k m off (subst (λ (ys : List ℕ). slice_get ys k ≡ Some m) (reads f (set all s y) s set-within r-2 is-2) here)) t l n (λ at-s at-l. other (at-s, at-l))
      (set-once f all s within r y is kept t l n at))

pub once-long : {X : Type 0} (f : X → List ℕ) (all : List X) (s : ℕ) (y : X) → length (map f (set all s y)) ≡ length (map f all)
once-long f all s y = length-map (set all s y) f ∙ length-set all s y ∙ sym (length-map all f)

pub twice-long : {X : Type 0} (f : X → List ℕ) (all : List X) (s : ℕ) (y z : X) → length (map f (set (set all s y) s z)) ≡ length (map f all)
twice-long f all s y z = once-long f (set all s y) s z ∙ once-long f all s y
