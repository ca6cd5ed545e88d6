-- What the readers of units owe.
use Rattle.std.proofs.Common.{◌≡◌, ◌≢◌, ℕ, ◌+◌, ◌<◌, ◌≤◌, Bool, true, false, List, [], ◌∷◌, ◌++◌, length, get_or, take, drop, refl, sym, ◌∙◌, ap, append_assoc, arith, Some, None, nat_eq, nat_lt, ◌==◌, ◌-◌, ◌||◌, subst, cond, inl, inr, codes, position, eqb}
use Rattle.std.specs.List.{list_any, position_or_len}
use Rattle.std.proofs.lemmas.List.Quantifiers.{position-Some}
use Rattle.std.proofs.lemmas.List.Sums.{fails_before_first}
use Rattle.std.proofs.lemmas.List.Folds.{list_any-append, list_any_none}
use Rattle.std.proofs.lemmas.List.Elements.{All-from_get_or}
use Rattle.std.proofs.lemmas.List.{take-append-drop, drop_more, get_or-take, length-take, length-drop, take_all}
use Rattle.std.proofs.lemmas.Bool.{false≢true, eq-eqb, ltb-false}
use Rattle.std.proofs.lemmas.Option.{none-some}
use Rattle.std.proofs.lemmas.Slice.Eq.{strip_prefix_is}
use Rattle.std.proofs.lemmas.Bool.Decides.{Decides-eqb}
use Rattle.std.specs.Cmp.Lexicographic.{pointwise}
use Rattle.ga_base.specs.declared.formats.FormatItem.{FormatItem}
use Rattle.ga_base.specs.declared.formats.FormatItem.TheVariants.{Literal, Forwarded}
use Rattle.ga_format.specs.Steps.Checks.{GivesUnit}
use Rattle.ga_format.specs.Specifiers.{has, letters}
use Rattle.ga_format.specs.Units.{FormatUnit, Plain, Tab, Specifier, ForwardedFor, item_of, Begins, IsUnknown}

-- what `strip_prefix` says where it finds nothing
pub not_front : (s p : List ℕ) → pointwise nat_eq (take (length p) s) p ≡ false → (rest : List ℕ) → s ≢ p ++ rest
not_front s p h = strip_prefix_is Decides-eqb s p None h

pub heads : (a b : ℕ) (xs ys : List ℕ) → a ∷ xs ≡ b ∷ ys → (a ≡ b) × (xs ≡ ys)
heads a b xs ys e = (cc, cc)

-- lists whose first numbers differ are not one
pub apart : (a b : ℕ) (xs ys : List ℕ) → eqb a b ≡ false → a ∷ xs ≡ b ∷ ys → ⊥
apart a b xs ys differ e = false≢true (sym differ ∙ eq-eqb a b (heads a b xs ys e).0)

pub gives_plain : (text : List ℕ) (byte : ℕ) (after : List ℕ) → text ≡ byte ∷ after → ((rest : List ℕ) → text ≢ codes "%" ++ rest) → ((rest : List ℕ) → text ≢ codes "~h{" ++ rest) → ((rest : List ℕ) → text ≢ codes "\\t" ++ rest) → GivesUnit text (Literal byte) after
gives_plain text byte after e percent forwarded tab = record {
  unit = Plain byte;
  begins = record { spelled = e; is_unit = ((λ s. percent s.0 (e ∙ s.1)), (λ s. tab s.0 (e ∙ s.1)), (λ s. forwarded s.0 (e ∙ s.1))) };
  is_item = refl;
}

pub gives_specifier : (text : List ℕ) (letter : ℕ) (after : List ℕ) (item : FormatItem) → text ≡ letter ∷ after → has letter letters ≡ true → item ≡ item_of (Specifier letter) → GivesUnit (37 ∷ text) item after
gives_specifier text letter after item e h same = record {
  unit = Specifier letter;
  begins = record { spelled = ap (λ t. 37 ∷ t) e; is_unit = h };
  is_item = same;
}

-- after a percent sign only a letter makes a unit
pub no_specifier : (text : List ℕ) → ((letter : ℕ) (after : List ℕ) → text ≡ letter ∷ after → has letter letters ≡ true → ⊥) → IsUnknown (37 ∷ text)
no_specifier text none = record { begun = inl (text, refl); none = cases }
  where
    cases : (unit : FormatUnit) (after : List ℕ) → Begins unit (37 ∷ text) after → ⊥
    cases (Plain byte) after b = b.is_unit.0 (text, sym b.spelled)
    cases Tab after b = apart 37 92 _ _ refl b.spelled
    cases (Specifier letter) after b = none letter after (heads 37 37 text (letter ∷ after) b.spelled).1 b.is_unit
    cases (ForwardedFor separators) after b = apart 37 126 _ _ refl b.spelled

-- after `~h{` only separators and a `}` make a unit
pub no_forwarded : (text : List ℕ) → ((separators after : List ℕ) → text ≡ separators ++ (125 ∷ after) → separators ≢ [] → has 125 separators ≡ false → ⊥) → IsUnknown (126 ∷ 104 ∷ 123 ∷ text)
no_forwarded text none = record { begun = inr (text, refl); none = cases }
  where
    cases : (unit : FormatUnit) (after : List ℕ) → Begins unit (126 ∷ 104 ∷ 123 ∷ text) after → ⊥
    cases (Plain byte) after b = b.is_unit.2 (text, sym b.spelled)
    cases Tab after b = apart 126 92 _ _ refl b.spelled
    cases (Specifier letter) after b = apart 126 37 _ _ refl b.spelled
    cases (ForwardedFor separators) after b =
        let e : 126 ∷ 104 ∷ 123 ∷ text ≡ 126 ∷ 104 ∷ 123 ∷ ((separators ++ codes "}") ++ after) = b.spelled in
        let rest : text ≡ (separators ++ codes "}") ++ after = (heads 123 123 _ _ (heads 104 104 _ _ (heads 126 126 _ _ e).1).1).1 in
        none separators after (rest ∙ append_assoc separators (codes "}") after) b.is_unit.0 b.is_unit.1

none_below : (p : ℕ → Bool) (xs : List ℕ) (n : ℕ) → n ≤ length xs → ((k : ℕ) → k < n → p (get_or xs k 0) ≡ false) → list_any p (take n xs) ≡ false
none_below p xs n h f = list_any_none p (take n xs) (All-from_get_or (λ x. p x ≡ false) (take n xs) 0 (λ i lt.
    let below : i < n = omega (arith, length-take {A = ℕ}) in
    rw (get_or-take n xs i 0 below) (f i below)))

pub brace_at : (text : List ℕ) (end : ℕ) → position (λ byte. byte == 125) text ≡ Some end → (end < length text) × (text ≡ take end text ++ (125 ∷ drop (end + 1) text)) × (has 125 (take end text) ≡ false)
brace_at text end e =
    let found = position-Some (λ byte. byte == 125) text end 0 e in
    let byte : get_or text end 0 ≡ 125 = (Decides-eqb (get_or text end 0) 125).0 found.1 in
    let rest : drop end text ≡ 125 ∷ drop (end + 1) text = rw (drop_more text end 0 found.0) (ap (λ b. b ∷ drop (end + 1) text) byte) in (
      found.0,
      sym (take-append-drop end text) ∙ ap (λ r. take end text ++ r) rest,
      none_below (λ byte. byte == 125) text end (omega arith) found.2,
    )

none_found : (b : Bool) (n : ℕ) → cond b (Some n) None ≡ None → b ≡ false
none_found true n e = absurd (none-some n (sym e))
none_found false n e = refl

pub no_brace : (text : List ℕ) → position (λ byte. byte == 125) text ≡ None → has 125 text ≡ false
no_brace text e =
    let p : ℕ → Bool = λ byte. byte == 125 in
    let beyond : length text ≤ position_or_len p text = ltb-false _ _ (none_found (nat_lt (position_or_len p text) (length text)) _ e) in
    list_any_none p text (All-from_get_or (λ x. p x ≡ false) text 0 (λ i lt. fails_before_first p text i 0 (omega arith)))

empty_not : (x : ℕ) (xs : List ℕ) → [] ≡ x ∷ xs → ⊥
empty_not x xs e = let l : 0 ≡ length (x ∷ xs) = ap length e in omega arith

pub unknown_end : IsUnknown (37 ∷ [])
unknown_end = no_specifier [] (λ letter after e h. absurd (empty_not letter after e))

pub unknown_letter : (text : List ℕ) (letter : ℕ) (after : List ℕ) → text ≡ letter ∷ after → has letter letters ≡ false → IsUnknown (37 ∷ text)
unknown_letter text letter after e h = no_specifier text (λ other more same named.
    let eq : letter ≡ other = (heads letter other after more (sym e ∙ same)).0 in
    false≢true (sym h ∙ (ap (λ (l : ℕ). has l letters) eq ∙ named)))

pub unclosed : (text : List ℕ) → position (λ byte. byte == 125) text ≡ None → IsUnknown (126 ∷ 104 ∷ 123 ∷ text)
unclosed text e = no_forwarded text (λ separators after same some without.
    let p : ℕ → Bool = λ byte. byte == 125 in
    let found : list_any p text ≡ true = ap (list_any p) same ∙ (list_any-append p separators (125 ∷ after) ∙ ap (λ b. b || true) without) in
    false≢true (sym (no_brace text e) ∙ found))

pub nothing_inside : (text : List ℕ) (end : ℕ) → position (λ byte. byte == 125) text ≡ Some end → end ≡ 0 → IsUnknown (126 ∷ 104 ∷ 123 ∷ text)
nothing_inside text end e zeroth = no_forwarded text (λ separators after same some without.
    let at : text ≡ 125 ∷ drop 1 text = subst (λ (n : ℕ). text ≡ take n text ++ (125 ∷ drop (n + 1) text)) zeroth (brace_at text end e).1 in
    first_brace separators (drop 1 text) after some without (sym at ∙ same))
  where
    first_brace : (separators more after : List ℕ) → separators ≢ [] → has 125 separators ≡ false → 125 ∷ more ≡ separators ++ (125 ∷ after) → ⊥
    first_brace [] more after some without same = some refl
    first_brace (s ∷ rest) more after some without same =
        let eq : 125 ≡ s = (heads 125 s more (rest ++ (125 ∷ after)) same).0 in
        let hit : has 125 (s ∷ rest) ≡ true = ap (λ b. b || has 125 rest) (eq-eqb s 125 (sym eq)) in
        false≢true (sym without ∙ hit)

pub gives_forwarded : (text : List ℕ) (end : ℕ) (separators : List ℕ) → position (λ byte. byte == 125) text ≡ Some end → ¬ (end ≡ 0) → separators ≡ take end text → GivesUnit (126 ∷ 104 ∷ 123 ∷ text) (Forwarded separators) (take (length text - (end + 1)) (drop (end + 1) text))
gives_forwarded text end separators e some same =
    let found = brace_at text end e in
    let rest : take (length text - (end + 1)) (drop (end + 1) text) ≡ drop (end + 1) text = take_all (length text - (end + 1)) (drop (end + 1) text) (omega (arith, length-drop {A = ℕ})) in
    let spelled : text ≡ (separators ++ codes "}") ++ drop (end + 1) text = found.1 ∙ (ap (λ s. s ++ (125 ∷ drop (end + 1) text)) (sym same) ∙ sym (append_assoc separators (codes "}") (drop (end + 1) text))) in
    record {
      unit = ForwardedFor separators;
      begins = record {
        spelled = rw (rest) (ap (λ t. 126 ∷ 104 ∷ 123 ∷ t) spelled);
        is_unit = ((λ empty. some (no_front text end found.0 (sym same ∙ empty))), ap (has 125) same ∙ found.2);
      };
      is_item = refl;
    }
  where
    no_front : (text : List ℕ) (end : ℕ) → end < length text → take end text ≡ [] → end ≡ 0
    no_front text end lt empty = let none : length (take end text) ≡ 0 = ap length empty in omega (arith, length-take {A = ℕ})
