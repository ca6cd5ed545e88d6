-- What a function finds for each of a list, where it finds something for all of them.
use Rattle.std.proofs.Common.{◌≡◌, ℕ, zero, suc, ◌+◌, ◌<◌, List, [], ◌∷◌, ◌++◌, Some, length, get_or, map, take, refl, sym, ap, ◌∙◌, arith}
use Rattle.std.specs.Prelude.{Option, slice_get}
use Rattle.std.specs.List.{filter_map}
use Rattle.std.proofs.lemmas.List.{length-map, map-append}
use Rattle.std.proofs.lemmas.List.Elements.{filter_map-append}
use Rattle.ga_report.proofs.Lists.{take-get}

module _ {X Y : Type 0} (h : X → Option Y) where
  abbrev pub Finds : List X → List Y → Type 0
  Finds xs ys = map h xs ≡ map Some ys

  pub found : (xs : List X) (ys : List Y) → Finds xs ys → filter_map h xs ≡ ys
  found [] [] e = refl
  found [] (y ∷ ys) e = cc
  found (x ∷ xs) [] e = cc
  found (x ∷ xs) (y ∷ ys) e =
      let first : h x ≡ Some y = cc e in
      let rest : Finds xs ys = cc e in
      rw first (ap (λ (r : List Y). y ∷ r) (found xs ys rest))

  pub found-long : (xs : List X) (ys : List Y) → Finds xs ys → length xs ≡ length ys
  found-long xs ys e = sym (length-map xs h) ∙ ap length e ∙ length-map ys Some

  -- what is found at a place
  pub found-at : (xs : List X) (ys : List Y) (i : ℕ) (d : X) → Finds xs ys → i < length xs → (y : Y) × (h (get_or xs i d) ≡ Some y) × (slice_get ys i ≡ Some y)
  found-at [] ys i d e less = absurd (omega (arith, less))
  found-at (x ∷ xs) [] i d e less = cc
  found-at (x ∷ xs) (y ∷ ys) zero d e less =
      let first : h x ≡ Some y = cc e in
      (y, first, refl)
  found-at (x ∷ xs) (y ∷ ys) (suc i) d e less =
      let rest : Finds xs ys = cc e in
      found-at xs ys i d rest (omega (arith, less))

  pub found-there : (xs : List X) (ys : List Y) (i : ℕ) (d : X) (y : Y) → Finds xs ys → i < length xs → h (get_or xs i d) ≡ Some y → slice_get ys i ≡ Some y
  found-there xs ys i d y e less there =
      let at = found-at xs ys i d e less in
      at.2 ∙ sym at.1 ∙ there

  -- one more
  pub found-behind : (xs xs' : List X) (ys : List Y) (x : X) (y : Y) → Finds xs ys → h x ≡ Some y → xs' ≡ xs ++ x ∷ [] → Finds xs' (ys ++ y ∷ [])
  found-behind xs xs' ys x y are at e =
      ap (map h) e ∙ map-append h xs (x ∷ [])
      ∙ (λ i. are i ++ at i ∷ []) ∙ sym (map-append Some ys (y ∷ []))

  pub found-more : (xs : List X) (i : ℕ) (d : X) (y : Y) → i < length xs → h (get_or xs i d) ≡ Some y
      → filter_map h (take (i + 1) xs) ≡ filter_map h (take i xs) ++ y ∷ []
  found-more xs i d y less there =
      let one : filter_map h (get_or xs i d ∷ []) ≡ y ∷ [] = rw there refl in
      ap (filter_map h) (take-get i xs d less) ∙ filter_map-append h (take i xs) (get_or xs i d ∷ [])
      ∙ ap (λ (l : List Y). filter_map h (take i xs) ++ l) one
