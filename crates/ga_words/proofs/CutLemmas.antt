-- A word is cut at its first `=` in one way.
use Rattle.std.proofs.Common.{◌≡◌, ◌≢◌, ◌<◌, ℕ, suc, Option, Some, None, List, [], ◌∷◌, ◌++◌, length, get_or, codes, refl, sym, ap, ◌∙◌, inl, inr, ◌⊎◌, MatchOption, Bor, append_assoc, arith, lit<}
use Rattle.std.proofs.lemmas.Str.Pattern.{IsSplitOnceResult, split_parts}
use Rattle.ga_words.specs.Steps.Words.{IsPlain, IsCut}
use Rattle.ga_words.proofs.Decided.{same-number}

plain-none : IsPlain []
plain-none [] back e = cc
plain-none (x ∷ front) back e = cc

-- what no index shows isn't there
plain-of : (text : List ℕ) → ((i : ℕ) → i < length text → get_or text i 0 ≢ 61) → IsPlain text
plain-of [] h front back e = plain-none front back e
plain-of (b ∷ bs) h [] back e = let first : b ≡ 61 = cc in h 0 (omega arith) first
plain-of (b ∷ bs) h (x ∷ front) back e = let more : bs ≡ front ++ codes "=" ++ back = cc in plain-of bs (λ i within. h (suc i) (omega arith)) front back more

pub cut-of : (word : List ℕ) (r : Option (Bor (List ℕ) × Bor (List ℕ))) → IsSplitOnceResult 61 word r → MatchOption r (IsPlain word) (λ parts. IsCut word parts.0.now parts.1.now)
cut-of word None h = plain-of word (split_parts 61 word None h (lit< tt))
cut-of word (Some parts) h =
    let both = split_parts 61 word (Some parts) h (lit< tt) in
    record { split = both.0 ∙ sym (append_assoc parts.0.now (codes "=") parts.1.now); plain = plain-of parts.0.now both.1 }

plain-more : (b : ℕ) (bs : List ℕ) → b ≢ 61 → IsPlain bs → IsPlain (b ∷ bs)
plain-more b bs differs plain [] back e = let first : b ≡ 61 = cc in differs first
plain-more b bs differs plain (x ∷ front) back e = let more : bs ≡ front ++ codes "=" ++ back = cc in plain front back more

-- a word has no `=`, or is cut at its first one
abbrev pub IsPlainOrCut : List ℕ → Type 0
IsPlainOrCut word = IsPlain word ⊎ ((front back : List ℕ) × IsCut word front back)

cut-more : (b : ℕ) (bs : List ℕ) → b ≢ 61 → IsPlainOrCut bs → IsPlainOrCut (b ∷ bs)
cut-more b bs differs (inl plain) = inl (plain-more b bs differs plain)
cut-more b bs differs (inr (front, back, cut)) =
    inr (b ∷ front, back, record { split = ap (λ (x : List ℕ). b ∷ x) cut.split; plain = plain-more b front differs cut.plain })

pub plain-or-cut : (word : List ℕ) → IsPlainOrCut word
plain-or-cut [] = inl plain-none
plain-or-cut (b ∷ bs) =
    elim (same-number b 61) [
      | yes sign ↦ inr ([], bs, record { split = ap (λ (x : ℕ). x ∷ bs) sign; plain = plain-none })
      | no differs ↦ cut-more b bs differs (plain-or-cut bs)
    ]

pub plain-tail : (b : ℕ) (bs : List ℕ) → IsPlain (b ∷ bs) → IsPlain bs
plain-tail b bs h = λ front back e. h (b ∷ front) back (ap (λ (x : List ℕ). b ∷ x) e)

pub plain-head : (b : ℕ) (bs : List ℕ) → IsPlain (b ∷ bs) → b ≢ 61
plain-head b bs h = λ e. h [] bs (ap (λ (x : ℕ). x ∷ bs) e)

same-cons : (x y : ℕ) (xs ys : List ℕ) → x ∷ xs ≡ y ∷ ys → (x ≡ y) × (xs ≡ ys)
same-cons x y xs ys e = (cc, cc)

pub one-cut : (front other back more : List ℕ) → IsPlain front → IsPlain other → front ++ 61 ∷ back ≡ other ++ 61 ∷ more → (front ≡ other) × (back ≡ more)
one-cut [] [] back more h k e = (refl, (same-cons _ _ _ _ e).1)
one-cut [] (y ∷ other) back more h k e = absurd (plain-head y other k (sym (same-cons _ _ _ _ e).0))
one-cut (x ∷ front) [] back more h k e = absurd (plain-head x front h (same-cons _ _ _ _ e).0)
one-cut (x ∷ front) (y ∷ other) back more h k e =
    let (head, tail) = same-cons _ _ _ _ e in
    let (front_is, back_is) = one-cut front other back more (plain-tail x front h) (plain-tail y other k) tail in
    (λ i. head i ∷ front_is i, back_is)
