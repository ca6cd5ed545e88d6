-- What a search says of the place at which a field ends.
use Rattle.std.proofs.Common.{◌≡◌, ◌≢◌, ℕ, ◌+◌, ◌-◌, ◌<◌, ◌≤◌, true, List, [], ◌∷◌, ◌++◌, length, take, drop, get_or, Option, Some, None, refl, sym, ap, ◌∙◌, subst, arith, append_assoc, length-drop, length-take, take-add, take_all, get_or-drop, ⊎_elim}
use Rattle.std.proofs.lemmas.Bool.{eq-eqb, eqb-true, or_cases, cases_lt}
use Rattle.std.proofs.lemmas.List.{length-take-le, get_or-take, take_more}
use Rattle.std.specs.Option.{IfSome, IfNone}
use Rattle.memchr.specs.Find.{IsFirstByte, is_byte, is_byte2}
use Rattle.ga_line.specs.Fits.{double_quote, backslash, IsFree, nothing, byte, pair, NeverEnds}
use Rattle.ga_line.proofs.FreeLemmas.{bytes-free, free-append, free-prefix, free-never}

module _ (stop : ℕ) (rest : List ℕ) (plain : stop ≢ double_quote) where
  -- any byte but the double quote ends a field where it first stands
  first-free : (end : ℕ) → IsFirstByte (is_byte stop) rest (Some end) → IsFree stop (take end rest)
  first-free end first =
      let inside : end < length rest = first.0.high in
      bytes-free stop (take end rest) (λ k lt.
      let below : k < end = omega (arith, length-take-le end rest (omega arith)) in
      let same : get_or (take end rest) k 0 ≡ get_or rest k 0 = rw get_or-take refl in
      (λ is. first.0.before k (omega arith) below (eq-eqb _ _ (sym same ∙ is)), λ quote. absurd (plain quote)))

  none-never : IsFirstByte (is_byte stop) rest None → NeverEnds stop rest
  none-never none =
      free-never stop rest (bytes-free stop rest (λ k lt. (λ is. none k (omega arith) lt (eq-eqb _ _ is), λ quote. absurd (plain quote))))

  -- the same of whatever the search gave
  pub stop-first : (r : Option ℕ) → IsFirstByte (is_byte stop) rest r → IfSome r (λ end. IsFree stop (take end rest))
  stop-first None h = tt
  stop-first (Some end) h = first-free end h

  pub stop-none : (r : Option ℕ) → IsFirstByte (is_byte stop) rest r → IfNone r (NeverEnds stop rest)
  stop-none None h = none-never h
  stop-none (Some end) h = tt

neither : (b : ℕ) → ¬ (is_byte2 34 92 b ≡ true) → (b ≢ double_quote) × (double_quote ≡ double_quote → b ≢ backslash)
neither b not = (λ is. not (ap (is_byte2 34 92) is), λ _ is. not (ap (is_byte2 34 92) is))

either : (b : ℕ) → is_byte2 34 92 b ≡ true → b ≢ double_quote → b ≡ backslash
either b hit ne = ⊎_elim (λ quote. absurd (ne (eqb-true _ _ quote))) (λ slash. eqb-true _ _ slash) (or_cases _ _ hit)

module _ (rest : List ℕ) (from : ℕ) (within : from ≤ length rest) (passed : IsFree double_quote (take from rest)) where
  abbrev pub part : List ℕ
  part = take (length rest - from) (drop from rest)

  part-is : part ≡ drop from rest
  part-is = take_all (length rest - from) (drop from rest) (omega (arith, length-drop from rest))

  part-at : (k : ℕ) → get_or part k 0 ≡ get_or rest (from + k) 0
  part-at k = ap (λ xs. get_or xs k 0) part-is ∙ get_or-drop from rest k 0

  length-part : length part ≡ length rest - from
  length-part = ap length part-is ∙ length-drop from rest

  -- no place to end in what was searched
  run-free : (n : ℕ) → from + n ≤ length rest → ((k : ℕ) → k < n → ¬ (is_byte2 34 92 (get_or part k 0) ≡ true)) → IsFree double_quote (take (from + n) rest)
  run-free n le none =
      let run = take n (drop from rest) in
      let free : IsFree double_quote run =
      bytes-free double_quote run (λ k lt.
      let below : k < n = omega (arith, length-take n (drop from rest)) in
      let same : get_or part k 0 ≡ get_or run k 0 = ap (λ xs. get_or xs k 0) part-is ∙ sym (rw get_or-take refl) in
      neither (get_or run k 0) (λ yes. none k below (ap (is_byte2 34 92) same ∙ yes))) in
      rw take-add (free-append double_quote (take from rest) run passed free)

  -- nothing is found: the field never ends
  pub quote-none : IsFirstByte (is_byte2 34 92) part None → NeverEnds double_quote rest
  quote-none none =
      let all : IsFree double_quote (take (from + (length rest - from)) rest) =
      run-free (length rest - from) (omega arith) (λ k lt. none k (omega arith) (omega (arith, length-part))) in
      free-never double_quote rest (subst (λ t. IsFree double_quote t) (take_all (from + (length rest - from)) rest (omega arith)) all)

  module _ (n : ℕ) (found : IsFirstByte (is_byte2 34 92) part (Some n)) where
    pub found-within : from + n < length rest
    found-within = omega (arith, length-part, found.0.high)

    pub found-free : IsFree double_quote (take (from + n) rest)
    found-free = run-free n (omega (arith, found-within)) (λ k lt. found.0.before k (omega arith) lt)

    pub found-slash : get_or rest (from + n) 0 ≢ double_quote → get_or rest (from + n) 0 ≡ backslash
    found-slash ne = either (get_or rest (from + n) 0) (ap (is_byte2 34 92) (sym (part-at n)) ∙ found.1) ne

module _ (rest : List ℕ) (at : ℕ) (inside : at < length rest) (free : IsFree double_quote (take at rest)) (slash : get_or rest at 0 ≡ backslash) where
  -- a backslash and the byte after it are passed over together
  pub pair-free : at + 2 ≤ length rest → IsFree double_quote (take (at + 2) rest)
  pair-free le =
      let next = get_or rest (at + 1) 0 in
      let one : take (at + 1) rest ≡ take at rest ++ get_or rest at 0 ∷ [] = take_more rest at 0 inside in
      let two : take (at + 1 + 1) rest ≡ take (at + 1) rest ++ next ∷ [] = take_more rest (at + 1) 0 (omega arith) in
      let joined : take (at + 2) rest ≡ take at rest ++ (get_or rest at 0 ∷ next ∷ []) =
      ap (λ n. take n rest) (omega arith) ∙ two ∙ ap (λ t. t ++ next ∷ []) one ∙ append_assoc (take at rest) (get_or rest at 0 ∷ []) (next ∷ []) in
      subst (λ t. IsFree double_quote t) (sym joined) (free-append double_quote (take at rest) (get_or rest at 0 ∷ next ∷ []) free (pair refl slash nothing))

  -- a backslash that is the last byte stands alone
  pub lone-never : length rest < at + 2 → NeverEnds double_quote rest
  lone-never past text after ends =
      let whole : rest ≡ take at rest ++ get_or rest at 0 ∷ [] =
      sym (take_all (at + 1) rest (omega arith)) ∙ take_more rest at 0 inside in
      let r = free-prefix double_quote (take at rest) free (get_or rest at 0 ∷ []) text after ends.first (sym whole ∙ ends.split) in
      alone (get_or rest at 0) slash r.0 after r.2 r.3
    where
      alone : (b : ℕ) → b ≡ backslash → (more after : List ℕ) → IsFree double_quote more → b ∷ [] ≡ more ++ double_quote ∷ after → ⊥
      alone b is [] after nothing e = let same : b ≡ double_quote = cc in omega arith
      alone b is (x ∷ more) after (byte ne plain f) e = let same : x ≡ b = cc in plain refl (same ∙ is)
      alone b is (x ∷ y ∷ more) after (pair quote xis f) e = let same : [] ≡ y ∷ (more ++ double_quote ∷ after) = cc in cc

-- at the end of the line
pub end-never : (rest : List ℕ) (from : ℕ) → (from ≤ length rest → IsFree double_quote (take from rest)) → (length rest < from → NeverEnds double_quote rest)
    → length rest ≤ from → NeverEnds double_quote rest
end-never rest from passed past end =
    ⊎_elim
    (λ lt. past lt)
    (λ le. free-never double_quote rest (subst (λ t. IsFree double_quote t) (take_all from rest end) (passed le)))
    (cases_lt (length rest) from)
