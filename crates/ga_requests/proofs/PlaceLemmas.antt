-- What the first and the last place of a byte say of a text.
use Rattle.std.proofs.Common.{◌≡◌, ◌≢◌, ℕ, suc, ◌+◌, ◌-◌, ◌<◌, Bool, true, false, List, [], ◌∷◌, ◌++◌, length, take, drop, get_or, Option, Some, None, refl, sym, ap, ◌∙◌, arith, length-append, length-drop, take_all, ⊎_elim}
use Rattle.std.specs.List.{position_or_len, before_first, after_first}
use Rattle.std.proofs.lemmas.Bool.{eq-eqb, eqb-true, cases_lt}
use Rattle.std.proofs.lemmas.List.{get_or_at, get_or_append_left, get_or-append_right}
use Rattle.std.proofs.lemmas.List.Sums.{position_or_len_is}
use Rattle.std.proofs.Math.ListN.{drop_of_length-le}
use Rattle.memchr.specs.Find.{IsFirstByte, IsLastByte, is_byte}

fails : (b : Bool) → ¬ (b ≡ true) → b ≡ false
fails true never = absurd (never refl)
fails false never = refl

module _ (test : ℕ → Bool) (text : List ℕ) where
  pub place_some : (k : ℕ) → IsFirstByte test text (Some k) → position_or_len test text ≡ k
  place_some k h =
      let inside : k < length text = h.0.high in
      position_or_len_is test text k 0 (omega arith) (λ j lt. fails _ (h.0.before j (omega arith) lt)) (λ _. h.1)

  pub place_none : IsFirstByte test text None → position_or_len test text ≡ length text
  place_none h = position_or_len_is test text (length text) 0 (omega arith) (λ j lt. fails _ (h j (omega arith) lt)) (λ lt. absurd (omega arith))

  -- the text up to that place
  pub before_some : (k : ℕ) → IsFirstByte test text (Some k) → take k text ≡ before_first test text
  before_some k h = ap (λ n. take n text) (sym (place_some k h))

  pub before_none : IsFirstByte test text None → text ≡ before_first test text
  before_none h = sym (ap (λ n. take n text) (place_none h) ∙ take_all (length text) text (omega arith))

  -- the text after that place
  pub after_some : (k : ℕ) → IsFirstByte test text (Some k) → take (length text - (k + 1)) (drop (k + 1) text) ≡ after_first test text
  after_some k h =
      take_all (length text - (k + 1)) (drop (k + 1) text) (omega (arith, length-drop (k + 1) text)) ∙ ap (λ n. drop (n + 1) text) (sym (place_some k h))

  pub after_none : IsFirstByte test text None → after_first test text ≡ []
  after_none h = drop_of_length-le text (omega (arith, place_none h))

-- the byte stands nowhere in the text
abbrev pub Lacks : ℕ → List ℕ → Type 0
Lacks stop text = (k : ℕ) → k < length text → get_or text k 0 ≢ stop

module _ (stop : ℕ) (text front rest : List ℕ) (joined : text ≡ front ++ stop ∷ rest) where
  inside : length front < length text
  inside = omega (arith, ap length joined, length-append front (stop ∷ rest))

  stands : is_byte stop (get_or text (length front) 0) ≡ true
  stands = eq-eqb _ _ (ap (λ xs. get_or xs (length front) 0) joined ∙ get_or_at front stop rest 0 (length front) refl)

  in-front : (k : ℕ) → k < length front → get_or text k 0 ≡ get_or front k 0
  in-front k lt = ap (λ xs. get_or xs k 0) joined ∙ get_or_append_left front (stop ∷ rest) 0 k lt

  in-rest : (k : ℕ) → length front < k → get_or text k 0 ≡ get_or rest (k - length front - 1) 0
  in-rest k lt =
      let behind : k - length front ≡ suc (k - length front - 1) = omega arith in
      ap (λ xs. get_or xs k 0) joined ∙ get_or-append_right front (stop ∷ rest) (length front) k 0 refl (omega arith) ∙ ap (λ j. get_or (stop ∷ rest) j 0) behind

  -- the byte after a front without it is in its first place
  pub first_is : Lacks stop front → (r : Option ℕ) → IsFirstByte (is_byte stop) text r → r ≡ Some (length front)
  first_is lacks None h = absurd (h (length front) (omega arith) inside stands)
  first_is lacks (Some k) h =
      ⊎_elim (λ lt. absurd (lacks k lt (sym (in-front k lt) ∙ eqb-true _ _ h.1)))
      (λ le. ⊎_elim (λ lt. absurd (h.0.before (length front) (omega arith) lt stands)) (λ ge. let same : k ≡ length front = omega arith in ap Some same) (cases_lt (length front) k))
      (cases_lt k (length front))

  -- the byte before a rest without it is in its last place
  pub last_is : Lacks stop rest → (r : Option ℕ) → IsLastByte (is_byte stop) text r → r ≡ Some (length front)
  last_is lacks None h = absurd (h (length front) (omega arith) inside stands)
  last_is lacks (Some k) h =
      ⊎_elim (λ lt. absurd (h.0.after (length front) (omega arith) inside stands))
      (λ le. ⊎_elim
      (λ lt.
      let high : k < length text = h.0.high in
      absurd (lacks (k - length front - 1) (omega (arith, ap length joined, length-append front (stop ∷ rest))) (sym (in-rest k lt) ∙ eqb-true _ _ h.1)))
      (λ ge. let same : k ≡ length front = omega arith in ap Some same) (cases_lt (length front) k))
      (cases_lt k (length front))
