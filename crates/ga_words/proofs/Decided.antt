-- Decisions: whether numbers and texts are equal, whether some number below a bound has a property, whether a text can be
-- cut so that its parts have one.
use mathlib.Core.Logic.Dec.{and, of_iff}
use Rattle.std.proofs.Common.{◌≡◌, ◌≢◌, ◌==◌, ◌<◌, ◌≤◌, ℕ, zero, suc, Bool, true, false, Option, Some, None, List, [], ◌∷◌, ◌++◌, refl, sym, ap, ◌∙◌, subst, inl, inr, ◌⊎◌, arith, append_assoc}
use Rattle.std.specs.Bool.{Decides}
use Rattle.std.specs.Str.{bytes_eq}
use Rattle.std.proofs.lemmas.Bool.{cases_lt}
use Rattle.std.proofs.lemmas.Bool.Decides.{Decides-eqb}
use Rattle.std.proofs.lemmas.Slice.Eq.{bytes_eq-Decides}

pub either : {P Q : Type 0} → Dec P → Dec Q → Dec (P ⊎ Q)
either (yes p) q = yes (inl p)
either (no not_p) (yes q) = yes (inr q)
either (no not_p) (no not_q) = no (λ h. elim h [ inl p ↦ not_p p | inr q ↦ not_q q ])

pub all-three : {P Q R : Type 0} → Dec P → Dec Q → Dec R → Dec (P × Q × R)
all-three p q r = of_iff (λ h. (h.0, h.1.0, h.1.1), λ h. (h.0, (h.1, h.2))) (and p (and q r))

pub by-test : {P : Type 0} (b : Bool) → Decides b P → Dec P
by-test true h = yes (h.0 refl)
by-test false h = no (λ p. let e = h.1 p in cc)

pub is-true : (b : Bool) → Dec (b ≡ true)
is-true true = yes refl
is-true false = no (λ e. cc)

pub is-false : (b : Bool) → Dec (b ≡ false)
is-false true = no (λ e. cc)
is-false false = yes refl

pub is-absent : {A : Type 0} (o : Option A) → Dec (o ≡ None)
is-absent None = yes refl
is-absent (Some x) = no (λ e. cc)

pub is-empty : {A : Type 0} (xs : List A) → Dec (xs ≡ [])
is-empty [] = yes refl
is-empty (x ∷ xs) = no (λ e. cc)

pub has-items : {A : Type 0} (xs : List A) → Dec (xs ≢ [])
has-items [] = no (λ some. some refl)
has-items (x ∷ xs) = yes (λ e. cc)

pub same-number : (a b : ℕ) → Dec (a ≡ b)
same-number a b = by-test (a == b) (Decides-eqb a b)

pub same-text : (a b : List ℕ) → Dec (a ≡ b)
same-text a b = by-test (bytes_eq a b) (bytes_eq-Decides a b)

pub at-most : (a b : ℕ) → Dec (a ≤ b)
at-most a b = elim (cases_lt b a) [ inl above ↦ no (λ h. absurd (omega arith)) | inr within ↦ yes within ]

-- a number below the bound has this
abbrev pub Below : ℕ → (ℕ → Type 0) → Type 0
Below bound P = (k : ℕ) × (k < bound) × P k

none-below : (bound : ℕ) (P : ℕ → Type 0) → ¬ P bound → ¬ Below bound P → (k : ℕ) → k < suc bound → P k → ⊥
none-below bound P last before k within p =
    elim (cases_lt k bound) [
      | inl lower ↦ before (k, lower, p)
      | inr above ↦ let same : k ≡ bound = omega arith in last (subst P same p)
    ]

pub some-below : (bound : ℕ) (P : ℕ → Type 0) → ((k : ℕ) → Dec (P k)) → Dec (Below bound P)
some-below zero P each = no (λ h. absurd (omega (arith, h.1)))
some-below (suc bound) P each =
    elim (each bound) [
      | yes p ↦ yes (bound, omega arith, p)
      | no last ↦ elim (some-below bound P each) [
        | yes h ↦ yes (h.0, omega (arith, h.1), h.2)
        | no before ↦ no (λ h. none-below bound P last before h.0 h.1 h.2)
      ]
    ]

-- the text can be cut so that both parts have this
abbrev pub Cut : List ℕ → (List ℕ → List ℕ → Type 0) → Type 0
Cut text P = (front back : List ℕ) × (text ≡ front ++ back) × P front back

cut-none : (P : List ℕ → List ℕ → Type 0) (front back : List ℕ) → [] ≡ front ++ back → P front back → P [] []
cut-none P [] back e p = subst (P []) (sym e) p
cut-none P (x ∷ front) back e p = cc

cut-first : (b : ℕ) (bs : List ℕ) (P : List ℕ → List ℕ → Type 0) (front back : List ℕ) → b ∷ bs ≡ front ++ back → P front back
    → P [] (b ∷ bs) ⊎ Cut bs (λ x y. P (b ∷ x) y)
cut-first b bs P [] back e p = inl (subst (P []) (sym e) p)
cut-first b bs P (x ∷ front) back e p =
    let head : x ≡ b = cc in
    let tail : bs ≡ front ++ back = cc in
    inr (front, back, tail, subst (λ (n : ℕ). P (n ∷ front) back) head p)

cut-more : (b : ℕ) (bs : List ℕ) (P : List ℕ → List ℕ → Type 0) → P [] (b ∷ bs) ⊎ Cut bs (λ x y. P (b ∷ x) y) → Cut (b ∷ bs) P
cut-more b bs P (inl p) = ([], b ∷ bs, refl, p)
cut-more b bs P (inr h) = (b ∷ h.0, h.1, ap (λ (x : List ℕ). b ∷ x) h.2, h.3)

pub some-cut : (text : List ℕ) (P : List ℕ → List ℕ → Type 0) → ((front back : List ℕ) → Dec (P front back)) → Dec (Cut text P)
some-cut [] P each = of_iff (λ p. ([], [], refl, p), λ h. cut-none P h.0 h.1 h.2 h.3) (each [] [])
some-cut (b ∷ bs) P each =
    of_iff (cut-more b bs P, λ h. cut-first b bs P h.0 h.1 h.2 h.3)
    (either (each [] (b ∷ bs)) (some-cut bs (λ x y. P (b ∷ x) y) (λ x y. each (b ∷ x) y)))

-- the text begins with the mark, and what follows has this
abbrev Leads : List ℕ → List ℕ → (List ℕ → Type 0) → Type 0
Leads mark text P = (back : List ℕ) × (text ≡ mark ++ back) × P back

leads-rest : (m b : ℕ) (mark bs : List ℕ) (P : List ℕ → Type 0) → Leads (m ∷ mark) (b ∷ bs) P → (b ≡ m) × Leads mark bs P
leads-rest m b mark bs P h = let e = h.1 in (cc, (h.0, cc, h.2))

leads-more : (m b : ℕ) (mark bs : List ℕ) (P : List ℕ → Type 0) → (b ≡ m) × Leads mark bs P → Leads (m ∷ mark) (b ∷ bs) P
leads-more m b mark bs P h = (h.1.0, (λ i. h.0 i ∷ h.1.1 i), h.1.2)

some-leads : (mark text : List ℕ) (P : List ℕ → Type 0) → ((back : List ℕ) → Dec (P back)) → Dec (Leads mark text P)
some-leads [] text P each = of_iff (λ p. (text, refl, p), λ h. subst P (sym h.1) h.2) (each text)
some-leads (m ∷ mark) [] P each = no (λ h. let e = h.1 in cc)
some-leads (m ∷ mark) (b ∷ bs) P each = of_iff (leads-more m b mark bs P, leads-rest m b mark bs P) (and (same-number b m) (some-leads mark bs P each))

-- the text can be cut at this mark so that what stands before it and what follows it have this
abbrev pub CutAt : List ℕ → List ℕ → (List ℕ → List ℕ → Type 0) → Type 0
CutAt mark text P = (front back : List ℕ) × (text ≡ front ++ mark ++ back) × P front back

cut-marked : (mark text : List ℕ) (P : List ℕ → List ℕ → Type 0) → Cut text (λ front rest. Leads mark rest (P front)) → CutAt mark text P
cut-marked mark text P (front, rest, split, (back, marked, p)) =
    (front, back, split ∙ ap (λ (x : List ℕ). front ++ x) marked ∙ sym (append_assoc front mark back), p)

marked-cut : (mark text : List ℕ) (P : List ℕ → List ℕ → Type 0) → CutAt mark text P → Cut text (λ front rest. Leads mark rest (P front))
marked-cut mark text P (front, back, split, p) = (front, mark ++ back, split ∙ append_assoc front mark back, (back, refl, p))

pub some-cut_at : (mark text : List ℕ) (P : List ℕ → List ℕ → Type 0) → ((front back : List ℕ) → Dec (P front back)) → Dec (CutAt mark text P)
some-cut_at mark text P each =
    of_iff (cut-marked mark text P, marked-cut mark text P)
    (some-cut text (λ front rest. Leads mark rest (P front)) (λ front rest. some-leads mark rest (P front) (each front)))
