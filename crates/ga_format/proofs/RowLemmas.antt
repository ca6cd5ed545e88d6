-- A text is cut into units in one way only.
use Rattle.std.proofs.Common.{◌≡◌, ℕ, ◌<◌, ◌≤◌, Bool, true, false, List, [], ◌∷◌, ◌++◌, length, refl, sym, ◌∙◌, ap, append_assoc, subst, arith, length-append, append-nil, ◌==◌, ◌||◌, codes}
use Rattle.std.proofs.lemmas.Bool.{false≢true, eq-eqb}
use Rattle.ga_format.specs.Specifiers.{has}
use Rattle.ga_format.specs.Units.{FormatUnit, Plain, Tab, Specifier, ForwardedFor, Begins, IsRow}
use Rattle.ga_format.proofs.UnitLemmas.{heads, apart}

-- two bytes strings without `}` before a `}` are one
same_front : (s t more after : List ℕ) → has 125 s ≡ false → has 125 t ≡ false → s ++ (125 ∷ more) ≡ t ++ (125 ∷ after) → (s ≡ t) × (more ≡ after)
same_front [] [] more after hs ht e = (refl, (heads 125 125 more after e).1)
same_front [] (y ∷ ys) more after hs ht e =
    let eq : 125 ≡ y = (heads 125 y more (ys ++ (125 ∷ after)) e).0 in
    absurd (false≢true (sym ht ∙ ap (λ b. b || has 125 ys) (eq-eqb y 125 (sym eq))))
same_front (x ∷ xs) [] more after hs ht e =
    let eq : x ≡ 125 = (heads x 125 (xs ++ (125 ∷ more)) after e).0 in
    absurd (false≢true (sym hs ∙ ap (λ b. b || has 125 xs) (eq-eqb x 125 eq)))
same_front (x ∷ xs) (y ∷ ys) more after hs ht e =
    let eq = heads x y (xs ++ (125 ∷ more)) (ys ++ (125 ∷ after)) e in
    let rest = same_front xs ys more after (or_right (x == 125) (has 125 xs) hs) (or_right (y == 125) (has 125 ys) ht) eq.1 in
    let head : x ≡ y = eq.0 in
    let tail : xs ≡ ys = rest.0 in
    (cc, rest.1)
  where
    or_right : (a b : Bool) → (a || b) ≡ false → b ≡ false
    or_right true b h = absurd (false≢true (sym h))
    or_right false b h = h

braces : (s after : List ℕ) → (s ++ codes "}") ++ after ≡ s ++ (125 ∷ after)
braces s after = append_assoc s (codes "}") after

-- a unit is fixed by the text
pub begins_same : (u v : FormatUnit) (text a b : List ℕ) → Begins u text a → Begins v text b → (u ≡ v) × (a ≡ b)
begins_same (Plain x) (Plain y) text a b p q =
    let eq = heads x y a b (sym p.spelled ∙ q.spelled) in
    (ap Plain eq.0, eq.1)
begins_same (Plain x) Tab text a b p q = absurd (p.is_unit.1 (b, sym p.spelled ∙ q.spelled))
begins_same (Plain x) (Specifier l) text a b p q = absurd (p.is_unit.0 (l ∷ b, sym p.spelled ∙ q.spelled))
begins_same (Plain x) (ForwardedFor s) text a b p q = absurd (p.is_unit.2 ((s ++ codes "}") ++ b, sym p.spelled ∙ q.spelled))
begins_same Tab (Plain y) text a b p q = absurd (q.is_unit.1 (a, sym q.spelled ∙ p.spelled))
begins_same Tab Tab text a b p q = (refl, (heads 116 116 a b (heads 92 92 _ _ (sym p.spelled ∙ q.spelled)).1).1)
begins_same Tab (Specifier l) text a b p q = absurd (apart 92 37 _ _ refl (sym p.spelled ∙ q.spelled))
begins_same Tab (ForwardedFor s) text a b p q = absurd (apart 92 126 _ _ refl (sym p.spelled ∙ q.spelled))
begins_same (Specifier l) (Plain y) text a b p q = absurd (q.is_unit.0 (l ∷ a, sym q.spelled ∙ p.spelled))
begins_same (Specifier l) Tab text a b p q = absurd (apart 37 92 _ _ refl (sym p.spelled ∙ q.spelled))
begins_same (Specifier l) (Specifier m) text a b p q =
    let eq = heads l m a b (heads 37 37 _ _ (sym p.spelled ∙ q.spelled)).1 in
    (ap Specifier eq.0, eq.1)
begins_same (Specifier l) (ForwardedFor s) text a b p q = absurd (apart 37 126 _ _ refl (sym p.spelled ∙ q.spelled))
begins_same (ForwardedFor s) (Plain y) text a b p q = absurd (q.is_unit.2 ((s ++ codes "}") ++ a, sym q.spelled ∙ p.spelled))
begins_same (ForwardedFor s) Tab text a b p q = absurd (apart 126 92 _ _ refl (sym p.spelled ∙ q.spelled))
begins_same (ForwardedFor s) (Specifier l) text a b p q = absurd (apart 126 37 _ _ refl (sym p.spelled ∙ q.spelled))
begins_same (ForwardedFor s) (ForwardedFor t) text a b p q =
    let rest = (heads 123 123 _ _ (heads 104 104 _ _ (heads 126 126 _ _ (sym p.spelled ∙ q.spelled)).1).1).1 in
    let eq = same_front s t a b p.is_unit.1 q.is_unit.1 (sym (braces s a) ∙ (rest ∙ braces t b)) in
    (ap ForwardedFor eq.0, eq.1)

-- a unit takes a byte at least
pub begins_shorter : (u : FormatUnit) (text a : List ℕ) → Begins u text a → length a < length text
begins_shorter (Plain x) text a p = let e : length text ≡ length (x ∷ a) = ap length p.spelled in omega arith
begins_shorter Tab text a p = let e : length text ≡ length (92 ∷ 116 ∷ a) = ap length p.spelled in omega arith
begins_shorter (Specifier l) text a p = let e : length text ≡ length (37 ∷ l ∷ a) = ap length p.spelled in omega arith
begins_shorter (ForwardedFor s) text a p =
    let e : length text ≡ length (126 ∷ 104 ∷ 123 ∷ ((s ++ codes "}") ++ a)) = ap length p.spelled in
    omega (arith, length-append (s ++ codes "}") a)

pub row_no_longer : (xs : List FormatUnit) (text a : List ℕ) → IsRow xs text a → length a ≤ length text
row_no_longer [] text a r = let e : length text ≡ length a = ap length r in omega arith
row_no_longer (x ∷ xs) text a r = omega (arith, begins_shorter x text r.0 r.1, row_no_longer xs r.0 a r.2)

-- of two rows of one text, the one that goes further goes on from the other's end
pub row_through : (xs ys : List FormatUnit) (text a b : List ℕ) → IsRow xs text a → IsRow ys text b → length b ≤ length a → (more : List FormatUnit) × (ys ≡ xs ++ more) × IsRow more a b
row_through [] ys text a b p q le = (ys, refl, subst (λ (t : List ℕ). IsRow ys t b) p q)
row_through (x ∷ xs) [] text a b p q le =
    let e : length text ≡ length b = ap length q in
    absurd (omega (arith, begins_shorter x text p.0 p.1, row_no_longer xs p.0 a p.2))
row_through (x ∷ xs) (y ∷ ys) text a b p q le =
    let same = begins_same x y text p.0 q.0 p.1 q.1 in
    let rest = row_through xs ys p.0 a b p.2 (subst (λ (t : List ℕ). IsRow ys t b) (sym same.1) q.2) le in
    let head : x ≡ y = same.0 in
    let tail : ys ≡ xs ++ rest.0 = rest.1 in
    (rest.0, cc, rest.2)

pub row_snoc : (xs : List FormatUnit) (text rest : List ℕ) (u : FormatUnit) (after : List ℕ) → IsRow xs text rest → Begins u rest after → IsRow (xs ++ (u ∷ [])) text after
row_snoc [] text rest u after r b = (after, subst (λ (t : List ℕ). Begins u t after) (sym r) b, refl)
row_snoc (x ∷ xs) text rest u after r b = (r.0, r.1, row_snoc xs r.0 rest u after r.2 b)

-- two rows of the whole text are one
pub row_same : (xs ys : List FormatUnit) (text : List ℕ) → IsRow xs text [] → IsRow ys text [] → xs ≡ ys
row_same xs ys text p q =
    let through = row_through xs ys text [] [] p q (omega arith) in
    empty_more through.0 through.1 through.2
  where
    empty_more : (more : List FormatUnit) → ys ≡ xs ++ more → IsRow more [] [] → xs ≡ ys
    empty_more [] e r = sym (e ∙ append-nil xs)
    empty_more (m ∷ ms) e r = absurd (omega (arith, begins_shorter m [] r.0 r.1))
