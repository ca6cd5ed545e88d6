-- Where a field ends: at one place at most.
use Rattle.std.proofs.Common.{◌≡◌, ◌≢◌, ℕ, suc, ◌<◌, List, [], ◌∷◌, ◌++◌, length, get_or, refl, sym, ◌∙◌, arith}
use Rattle.std.proofs.lemmas.List.{append-nil}
use Rattle.ga_line.specs.Fits.{double_quote, backslash, IsFree, nothing, byte, pair, EndsAt, NeverEnds}

cons-head : (x y : ℕ) (xs ys : List ℕ) → x ∷ xs ≡ y ∷ ys → x ≡ y
cons-head x y xs ys e = cc

cons-tail : (x y : ℕ) (xs ys : List ℕ) → x ∷ xs ≡ y ∷ ys → xs ≡ ys
cons-tail x y xs ys e = cc

cons-same : (x y : ℕ) (xs ys : List ℕ) → x ≡ y → xs ≡ ys → x ∷ xs ≡ y ∷ ys
cons-same x y xs ys e f = cc

module _ (stop : ℕ) where
  -- a text without a place to end begins each text before such a place
  pub free-prefix : (t : List ℕ) → IsFree stop t → (rest text after : List ℕ) → IsFree stop text → t ++ rest ≡ text ++ stop ∷ after
      → (more : List ℕ) × (text ≡ t ++ more) × IsFree stop more × (rest ≡ more ++ stop ∷ after)
  free-prefix [] f rest text after g e = (text, refl, g, e)
  free-prefix (b ∷ t) (byte ne plain f) rest [] after nothing e = absurd (ne (cons-head _ _ _ _ e))
  free-prefix (b ∷ t) (byte ne plain f) rest (c ∷ text) after (byte cne cplain g) e =
      let r = free-prefix t f rest text after g (cons-tail _ _ _ _ e) in
      (r.0, cons-same _ _ _ _ (sym (cons-head _ _ _ _ e)) r.1, r.2, r.3)
  free-prefix (b ∷ t) (byte ne plain f) rest (c ∷ d ∷ text) after (pair quote is g) e =
      absurd (plain quote (cons-head _ _ _ _ e ∙ is))
  free-prefix (a ∷ b ∷ t) (pair quote is f) rest [] after nothing e =
      let same : a ≡ stop = cons-head _ _ _ _ e in
      absurd (omega arith)
  free-prefix (a ∷ b ∷ t) (pair quote is f) rest (c ∷ text) after (byte cne cplain g) e =
      absurd (cplain quote (sym (cons-head _ _ _ _ e) ∙ is))
  free-prefix (a ∷ b ∷ t) (pair quote is f) rest (c ∷ d ∷ text) after (pair cquote cis g) e =
      let r = free-prefix t f rest text after g (cons-tail _ _ _ _ (cons-tail _ _ _ _ e)) in (
        r.0,
        cons-same _ _ _ _ (sym (cons-head _ _ _ _ e)) (cons-same _ _ _ _ (sym (cons-head _ _ _ _ (cons-tail _ _ _ _ e))) r.1),
        r.2,
        r.3,
      )

  pub free-append : (a b : List ℕ) → IsFree stop a → IsFree stop b → IsFree stop (a ++ b)
  free-append [] b nothing g = g
  free-append (x ∷ a) b (byte ne plain f) g = byte ne plain (free-append a b f g)
  free-append (x ∷ y ∷ a) b (pair quote is f) g = pair quote is (free-append a b f g)

  -- what such a text begins with ends nowhere, where nothing follows it
  pub free-never : (rest : List ℕ) → IsFree stop rest → NeverEnds stop rest
  free-never rest f text after ends =
      let r = free-prefix rest f [] text after ends.first (append-nil rest ∙ ends.split) in
      nothing-left r.0 r.3
    where
      nothing-left : (more : List ℕ) → [] ≡ more ++ stop ∷ after → ⊥
      nothing-left [] e = cc
      nothing-left (x ∷ more) e = cc

  -- the text up to the first place, and what follows it, are the only ones
  pub EndsAt-unique : (rest text after text' after' : List ℕ) → EndsAt stop rest text after → EndsAt stop rest text' after' → (text ≡ text') × (after ≡ after')
  EndsAt-unique rest text after text' after' one two =
      let r = free-prefix text one.first (stop ∷ after) text' after' two.first (sym one.split ∙ two.split) in
      same r.0 r.1 r.2 r.3
    where
      same : (more : List ℕ) → text' ≡ text ++ more → IsFree stop more → stop ∷ after ≡ more ++ stop ∷ after' → (text ≡ text') × (after ≡ after')
      same [] e nothing tails = (sym (append-nil text) ∙ sym e, cons-tail _ _ _ _ tails)
      same (x ∷ more) e (byte ne plain f) tails = absurd (ne (sym (cons-head _ _ _ _ tails)))
      same (x ∷ y ∷ more) e (pair quote is f) tails = let s : stop ≡ x = cons-head _ _ _ _ tails in absurd (omega arith)

  -- bytes that are neither the one nor, before a double quote, a backslash
  pub bytes-free : (xs : List ℕ) → ((k : ℕ) → k < length xs → (get_or xs k 0 ≢ stop) × (stop ≡ double_quote → get_or xs k 0 ≢ backslash)) → IsFree stop xs
  bytes-free [] h = nothing
  bytes-free (x ∷ xs) h =
      byte (h 0 (omega arith)).0 (h 0 (omega arith)).1 (bytes-free xs (λ k lt. h (suc k) (omega arith)))
