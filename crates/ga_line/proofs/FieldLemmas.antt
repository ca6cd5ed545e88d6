-- The fields that are noted: none at first, and one more with each.
use Rattle.std.proofs.Common.{◌≡◌, ◌≢◌, ℕ, ◌-◌, ◌<◌, ◌≤◌, ◌==◌, Bool, true, false, cond, List, [], ◌∷◌, ◌++◌, length, get_or, set, Option, Some, None, refl, sym, ap, ◌∙◌, subst, arith, replicate}
use Rattle.std.specs.Borrow.{Bor}
use Rattle.std.specs.List.{find}
use Rattle.std.specs.Option.{option_copied, option_map, option_or}
use Rattle.std.proofs.lemmas.Bool.Decides.{nat_tests, Decides-eqb}
use Rattle.std.proofs.lemmas.List.{get_or-replicate, get_or-set_same, get_or-set_other}
use Rattle.std.proofs.lemmas.List.Folds.{find-append}
use Rattle.ga_line.specs.declared.fields.Fields.{Fields}
use Rattle.ga_line.specs.Fits.{Part, field}
use Rattle.ga_line.specs.Steps.Fitting.{IsLetter, AreNoted, noted, noted_text, part_of, first_taken}
use Rattle.ga_line.specs.Letters.{is_taken_letter}
use Rattle.ga_line.specs.Records.{taken_part}

pub no-text : (letter : ℕ) → IsLetter letter → option_copied (get_or (replicate {A = Option (Bor (List ℕ))} 64 None) (letter - 64) None) ≡ None
no-text letter is = ap option_copied (get_or-replicate 64 (letter - 64) None None (omega (arith, is.first, is.last)))

-- one more text under the letter that is asked for, and under another
noted-here : (letter other : ℕ) (known : Option (Bor (List ℕ))) (text : Bor (List ℕ)) → (letter == other) ≡ true
    → option_copied (option_or known (Some text)) ≡ noted other (option_copied known) (letter, text.now)
noted-here letter other None text e = ap (λ (x : Bool). cond x (Some text.now) None) (sym e)
noted-here letter other (Some first) text e = refl

noted-there : (letter other : ℕ) (known : Option (List ℕ)) (text : List ℕ) → (letter == other) ≡ false → known ≡ noted other known (letter, text)
noted-there letter other None text e = ap (λ (x : Bool). cond x (Some text) None) (sym e)
noted-there letter other (Some first) text e = refl

-- a text noted for one letter is found there, if none was, and the others as before
pub text-noted : (texts : List (Option (Bor (List ℕ)))) (letter other : ℕ) (text : Bor (List ℕ)) → length texts ≡ 64 → 64 ≤ letter → letter < 128 → IsLetter other
    → option_copied (get_or (set texts (letter - 64) (option_or (get_or texts (letter - 64) None) (Some text))) (other - 64) None)
    ≡ noted other (option_copied (get_or texts (other - 64) None)) (letter, text.now)
text-noted texts letter other text long first last is = go (letter == other) refl
  where
    now : Option (Bor (List ℕ))
    now = option_or (get_or texts (letter - 64) None) (Some text)

    go : (b : Bool) → (letter == other) ≡ b
        → option_copied (get_or (set texts (letter - 64) now) (other - 64) None) ≡ noted other (option_copied (get_or texts (other - 64) None)) (letter, text.now)
    go true e =
        let same : other ≡ letter = sym ((Decides-eqb letter other).0 e) in
        subst (λ (o : ℕ). option_copied (get_or (set texts (letter - 64) now) (o - 64) None) ≡ noted other (option_copied (get_or texts (o - 64) None)) (letter, text.now)) (sym same)
        (ap option_copied (get_or-set_same texts (letter - 64) now None (omega (arith, long))) ∙ noted-here letter other (get_or texts (letter - 64) None) text e)
    go false e =
        let apart : other - 64 ≢ letter - 64 = λ same. let one : letter ≡ other = omega (arith, same, is.first) in grind (arith, nat_tests, one, e) in
        ap option_copied (get_or-set_other texts (letter - 64) (other - 64) now None apart) ∙ noted-there letter other (option_copied (get_or texts (other - 64) None)) text.now e

-- the field with a letter, after one more field
field-push : (letter : ℕ) (before : List Part) (part : Part) → field letter (before ++ part ∷ []) ≡ noted letter (field letter before) part
field-push letter before part =
    ap (option_map (λ (p : Part). p.1)) (find-append (λ (p : Part). p.0 == letter) before (part ∷ [])) ∙ one-more (find (λ (p : Part). p.0 == letter) before)
  where
    alone : (b : Bool) → option_map (λ (p : Part). p.1) (cond b (Some part) None) ≡ cond b (Some part.1) None
    alone true = refl
    alone false = refl

    one-more : (first : Option Part) → option_map (λ (p : Part). p.1) (option_or first (cond (part.0 == letter) (Some part) None)) ≡ noted letter (option_map (λ (p : Part). p.1) first) part
    one-more None = alone (part.0 == letter)
    one-more (Some first) = refl

taken-push : (first : Option Part) (part : Part) (b : Bool) → is_taken_letter part.0 ≡ b → first_taken first part ≡ option_or first (cond b (Some part) None)
taken-push None part b e = ap (λ (x : Bool). cond x (Some part) None) e
taken-push (Some first) part b e = refl

-- the fields with one more
pub noted-more : (before : List Part) (old new : Fields) (letter : ℕ) (text : List ℕ) → AreNoted before old → length new.texts ≡ length old.texts
    → ((other : ℕ) → IsLetter other → noted_text other new ≡ noted other (noted_text other old) (letter, text))
    → option_map part_of new.taken ≡ first_taken (option_map part_of old.taken) (letter, text) → AreNoted (before ++ (letter, text) ∷ []) new
noted-more before old new letter text are room texts taken = record {
  room = room ∙ are.room;
  texts = λ other is.
      texts other is ∙ ap (λ (o : Option (List ℕ)). noted other o (letter, text)) (are.texts other is) ∙ sym (field-push other before (letter, text));
  taken =
      taken ∙ ap (λ (o : Option Part). first_taken o (letter, text)) are.taken ∙ taken-push (taken_part before) (letter, text) (is_taken_letter letter) refl
      ∙ sym (find-append (λ (part : Part). is_taken_letter part.0) before ((letter, text) ∷ []));
}
