-- No address has a dash, so that a text with one is cut into two addresses in one way.
use Rattle.std.proofs.Common.{◌≡◌, ◌≢◌, ◌==◌, not, true, false, ℕ, ◌<◌, ◌≤◌, Bool, List, [], ◌∷◌, ◌++◌, decimal, refl, sym, inl, inr, ◌⊎◌, arith, lit≤, subst}
use Rattle.std.proofs.lemmas.List.Elements.{All-head, All-tail}
use Rattle.std.proofs.lemmas.Bool.Decides.{nat_tests}
use Rattle.std.proofs.lemmas.Fmt.{decimal_is_IsNumeral}
use Rattle.std.specs.Char.{digit_value}
use Rattle.std.specs.Str.Parse.{AllDigits}
use Rattle.ga_hosts.specs.declared.address.Address.{Address}
use Rattle.ga_hosts.specs.declared.address.Address.TheVariants.{V4, V6}
use Rattle.ga_hosts.specs.Addresses.{Spells, IsDottedQuad, IsGroup, IsRow, IsWritten, IsShortened}
use Rattle.ga_hosts.specs.Steps.{HasNoDash}

-- no byte is a dash, by recursion on the text
abbrev pub Dashless : List ℕ → Type 0
Dashless [] = Unit {0}
Dashless (byte ∷ bytes) = (byte ≢ 45) × Dashless bytes

not-dash : (byte : ℕ) → not (byte == 45) ≡ true → byte ≢ 45
not-dash byte passes = grind (arith, nat_tests)

pub dashless-from_all : (text : List ℕ) → HasNoDash text → Dashless text
dashless-from_all [] all = tt
dashless-from_all (byte ∷ bytes) all =
    (not-dash byte (All-head (λ x. not (x == 45) ≡ true) byte bytes all), dashless-from_all bytes (All-tail (λ x. not (x == 45) ≡ true) byte bytes all))

dashless-append : (xs ys : List ℕ) → Dashless xs → Dashless ys → Dashless (xs ++ ys)
dashless-append [] ys h k = k
dashless-append (x ∷ xs) ys h k = (h.0, dashless-append xs ys h.1 k)

dashless-digits : (radix : ℕ) (text : List ℕ) → radix ≤ 16 → AllDigits radix text → Dashless text
dashless-digits radix [] small all = tt
dashless-digits radix (c ∷ cs) small all =
    (λ dash. let big : digit_value 45 < radix = subst (λ x. digit_value x < radix) dash all.0 in omega arith, dashless-digits radix cs small all.1)

dashless-decimal : (n : ℕ) → n < 256 → Dashless (decimal n)
dashless-decimal n fits = dashless-digits 10 (decimal n) (lit≤ tt) (decimal_is_IsNumeral n (omega arith)).0.1

dashless-point : Dashless (46 ∷ [])
dashless-point = (omega arith, tt)

dashless-colon : Dashless (58 ∷ [])
dashless-colon = (omega arith, tt)

dashless-quad : (text : List ℕ) (a b c d : ℕ) → IsDottedQuad text a b c d → Dashless text
dashless-quad text a b c d h =
    let first = dashless-append _ _ (dashless-append _ _ (dashless-decimal a h.fit.0) dashless-point) (dashless-decimal b h.fit.1) in
    let second = dashless-append _ _ (dashless-append _ _ first dashless-point) (dashless-decimal c h.fit.2) in
    subst Dashless (sym h.spelled) (dashless-append _ _ (dashless-append _ _ second dashless-point) (dashless-decimal d h.fit.3))

dashless-group : (text : List ℕ) (group : ℕ) → IsGroup text group → Dashless text
dashless-group text group h = dashless-digits 16 text (lit≤ tt) h.digits.1

dashless-row : (quad : Bool) (text groups : List ℕ) → IsRow quad text groups → Dashless text
dashless-row quad text [] h = subst Dashless (sym h) tt
dashless-row quad text (group ∷ []) h = dashless-group text group h
dashless-row quad text (group ∷ next ∷ more) (inl h) =
    let (first, rest, split, is_group, row) = h in
    subst Dashless (sym split) (dashless-append _ _ (dashless-append _ _ (dashless-group first group is_group) dashless-colon) (dashless-row quad rest (next ∷ more) row))
dashless-row quad text (group ∷ next ∷ more) (inr h) =
    let (allowed, none, pair) = h in
    dashless-quad text _ _ _ _ pair.quad

dashless-form : (text groups : List ℕ) → IsWritten text groups ⊎ IsShortened text groups → Dashless text
dashless-form text groups (inl h) = dashless-row true text groups h.row
dashless-form text groups (inr h) =
    let front = dashless-append h.left _ (dashless-row false h.left h.before h.is_before) (dashless-append (58 ∷ []) (58 ∷ []) dashless-colon dashless-colon) in
    subst Dashless (sym h.spelled) (dashless-append _ _ front (dashless-row true h.right h.after h.is_after))

-- no address has a dash
pub dashless-address : (text : List ℕ) (address : Address) → Spells text address → Dashless text
dashless-address text (V4 number) h = dashless-quad text _ _ _ _ h.quad
dashless-address text (V6 number) h = dashless-form text h.groups h.form

same-cons : (x y : ℕ) (xs ys : List ℕ) → x ∷ xs ≡ y ∷ ys → (x ≡ y) × (xs ≡ ys)
same-cons x y xs ys e = (cc, cc)

-- two cuts of one text at a first dash are one cut
pub one-cut : (first other rest more : List ℕ) → Dashless first → Dashless other → first ++ 45 ∷ rest ≡ other ++ 45 ∷ more → (first ≡ other) × (rest ≡ more)
one-cut [] [] rest more h k e = (refl, (same-cons _ _ _ _ e).1)
one-cut [] (y ∷ other) rest more h k e = absurd (k.0 (sym (same-cons _ _ _ _ e).0))
one-cut (x ∷ first) [] rest more h k e = absurd (h.0 (same-cons _ _ _ _ e).0)
one-cut (x ∷ first) (y ∷ other) rest more h k e =
    let (head, tail) = same-cons _ _ _ _ e in
    let (front, back) = one-cut first other rest more h.1 k.1 tail in
    (λ i. head i ∷ front i, back)

-- a text with a dash is no address
pub dash-no_address : (first rest : List ℕ) → Dashless (first ++ 45 ∷ rest) → ⊥
dash-no_address [] rest h = h.0 refl
dash-no_address (x ∷ first) rest h = dash-no_address first rest h.1
