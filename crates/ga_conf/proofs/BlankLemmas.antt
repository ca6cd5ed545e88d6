-- Blanks at the ends of a text: where they end, and that a text may be cut there.
use Rattle.std.proofs.Common.{◌≡◌, ℕ, zero, suc, ◌+◌, ◌-◌, ◌<◌, ◌≤◌, Bool, true, false, not, List, [], ◌∷◌, ◌++◌, length, take, drop, get_or, Some, None, sym, ap, ◌∙◌, subst, arith, length-append, length-drop, length-take-le, take-append-drop, get_or-take, get_or-drop, ⊎_elim}
use Rattle.std.proofs.lemmas.Bool.{cond-true, lt-ltb, cases_Bool, cases_lt}
use Rattle.std.proofs.lemmas.Bool.Decides.{nat_tests}
use Rattle.std.proofs.lemmas.List.{get_or_at, drop_more}
use Rattle.std.proofs.lemmas.List.Elements.{All-from_get_or, recursion_from_All}
use Rattle.std.proofs.lemmas.List.Quantifiers.{position-Some}
use Rattle.std.proofs.lemmas.List.Sums.{fails_before_first}
use Rattle.std.proofs.lemmas.Str.{IsCharBoundary-start, IsCharBoundary-end, IsCharBoundary-before_ascii, IsCharBoundary-after_ascii}
use Rattle.std.specs.List.{AllByRecursion, position, position_or_len}
use Rattle.std.specs.Str.{IsCharBoundary, IsUtf8}
use Rattle.ga_conf.specs.ConfFile.{HasNoBlank, is_blank}
use Rattle.ga_conf.specs.Steps.{DropsBlanks, IsCutAtBlank, SkipsBlanks, is_other}

-- a fact of each byte up to a place, and of all
pub all_before : (P : ℕ → Type 0) (text : List ℕ) (i : ℕ) → i ≤ length text → ((k : ℕ) → k < i → P (get_or text k 0)) → AllByRecursion P (take i text)
all_before P text i within each =
    let long = length-take-le i text within in
    recursion_from_All P (take i text) (All-from_get_or P (take i text) 0 (λ k lt.
    let below : k < i = omega (arith, long, lt) in subst P (sym (get_or-take i text k 0 below)) (each k below)))

pub all_of : (P : ℕ → Type 0) (text : List ℕ) → ((k : ℕ) → k < length text → P (get_or text k 0)) → AllByRecursion P text
all_of P text each = recursion_from_All P text (All-from_get_or P text 0 each)

-- where no byte passes a test, each fails it
pub fails_all : (p : ℕ → Bool) (text : List ℕ) → position p text ≡ None → (k : ℕ) → k < length text → p (get_or text k 0) ≡ false
fails_all p text none k lt = ⊎_elim
    (λ inside. let found : position p text ≡ Some (position_or_len p text) = cond-true _ _ _ (lt-ltb (position_or_len p text) (length text) inside) in
    let clash : None ≡ Some (position_or_len p text) = sym none ∙ found in cc)
    (λ outside. fails_before_first p text k 0 (omega (arith, outside, lt)))
    (cases_lt (position_or_len p text) (length text))

blank_from : (b : ℕ) → is_other b ≡ false → is_blank b ≡ true
blank_from b lacks = ⊎_elim (λ blank. blank) (λ other. let clash : true ≡ false = sym (ap not other) ∙ lacks in cc) (cases_Bool (is_blank b))

bare_from : (b : ℕ) → is_other b ≡ true → is_blank b ≡ false
bare_from b other = ⊎_elim (λ blank. let clash : false ≡ true = sym (ap not blank) ∙ other in cc) (λ bare. bare) (cases_Bool (is_blank b))

blank_ascii : (b : ℕ) → is_blank b ≡ true → b < 128
blank_ascii b blank = grind (arith, nat_tests)

-- what is left of a text begins with the byte at the cut
begins_with : (P : ℕ → Type 0) (text : List ℕ) (i : ℕ) → i < length text → P (get_or text i 0) → (b : ℕ) (rest : List ℕ) → drop i text ≡ b ∷ rest → P b
begins_with P text i lt here b rest is =
    let whole : b ∷ rest ≡ get_or text i 0 ∷ drop (i + 1) text = sym is ∙ drop_more text i 0 lt in
    let same : get_or text i 0 ≡ b = cc in subst P same here

-- ---- after blanks

-- a text may be cut after blanks at its front
pub cut_after_blanks : (text : List ℕ) (i : ℕ) → IsUtf8 text → i ≤ length text → ((k : ℕ) → k < i → is_blank (get_or text k 0) ≡ true) → IsCharBoundary text i
cut_after_blanks text zero utf8 within each = IsCharBoundary-start text utf8
cut_after_blanks text (suc i) utf8 within each =
    let next : i + 1 ≡ suc i = omega arith in
    subst (λ n. IsCharBoundary text n) next (IsCharBoundary-after_ascii text i utf8 (omega arith) (blank_ascii (get_or text i 0) (each i (omega arith))))

pub other_boundary : (text : List ℕ) (i : ℕ) → IsUtf8 text → position is_other text ≡ Some i → IsCharBoundary text i
other_boundary text i utf8 found =
    let at = position-Some is_other text i 0 found in
    cut_after_blanks text i utf8 (omega (arith, at.0)) (λ k lt. blank_from (get_or text k 0) (at.2 k lt))

pub skips : (text rest : List ℕ) (i : ℕ) → position is_other text ≡ Some i → rest ≡ drop i text → SkipsBlanks text rest
skips text rest i found is =
    let at = position-Some is_other text i 0 found in
    record {
      blanks = take i text;
      split = sym (take-append-drop i text) ∙ ap (λ r. take i text ++ r) (sym is);
      are = all_before (λ b. is_blank b ≡ true) text i (omega (arith, at.0)) (λ k lt. blank_from (get_or text k 0) (at.2 k lt));
      bare = λ b more e. begins_with (λ b. is_blank b ≡ false) text i at.0 (bare_from (get_or text i 0) at.1) b more (sym is ∙ e);
    }

pub skips_all : (text : List ℕ) → position is_other text ≡ None → text ≡ text ++ [] → SkipsBlanks text []
skips_all text none whole = record {
  blanks = text;
  split = whole;
  are = all_of (λ b. is_blank b ≡ true) text (λ k lt. blank_from (get_or text k 0) (fails_all is_other text none k lt));
  bare = λ b more e. cc;
}

-- ---- before blanks

-- the bytes from a place on are blanks
pub record AreBlanksFrom (text : List ℕ) (end : ℕ) : Type 0 where
  pub within : end ≤ length text
  pub blanks : (k : ℕ) → end ≤ k → k < length text → is_blank (get_or text k 0) ≡ true

pub blanks_end : (text : List ℕ) → AreBlanksFrom text (length text)
blanks_end text = record { within = omega arith; blanks = λ k low high. absurd (omega (arith, low, high)) }

pub blanks_more : (text : List ℕ) (end : ℕ) → AreBlanksFrom text end → 0 < end → is_blank (get_or text (end - 1) 0) ≡ true → AreBlanksFrom text (end - 1)
blanks_more text end from some here = record {
  within = omega (arith, from.within);
  blanks = λ k low high. ⊎_elim
      (λ before. let same : k ≡ end - 1 = omega (arith, low, before, some) in subst (λ n. is_blank (get_or text n 0) ≡ true) (sym same) here)
      (λ later. from.blanks k later high)
      (cases_lt k end);
}

pub end_boundary : (text : List ℕ) (end : ℕ) → AreBlanksFrom text end → IsCharBoundary text end
end_boundary text end from = ⊎_elim
    (λ inside. IsCharBoundary-before_ascii text end inside (blank_ascii (get_or text end 0) (from.blanks end (omega arith) inside)))
    (λ outside. let same : length text ≡ end = omega (arith, from.within, outside) in subst (λ n. IsCharBoundary text n) same (IsCharBoundary-end text))
    (cases_lt end (length text))

pub drops : (text front : List ℕ) (end : ℕ) → AreBlanksFrom text end → ((0 < end) → is_blank (get_or text (end - 1) 0) ≡ false) → front ≡ take end text → DropsBlanks text front
drops text front end from last is =
    let long = length-take-le end text from.within in
    record {
      blanks = drop end text;
      split = sym (take-append-drop end text) ∙ ap (λ f. f ++ drop end text) (sym is);
      are = all_of (λ b. is_blank b ≡ true) (drop end text) (λ k lt.
          let far : length (drop end text) ≡ length text - end = length-drop end text in
          subst (λ x. is_blank x ≡ true) (sym (get_or-drop end text k 0)) (from.blanks (end + k) (omega arith) (omega (arith, far, lt, from.within))));
      bare = λ b fore e.
          let whole : take end text ≡ fore ++ b ∷ [] = sym is ∙ e in
          let count : length (take end text) ≡ length fore + 1 = ap length whole ∙ length-append fore (b ∷ []) in
          let place : end - 1 ≡ length fore = omega (arith, count, long) in
          let some : 0 < end = omega (arith, count, long) in
          let here : get_or (take end text) (end - 1) 0 ≡ b = ap (λ t. get_or t (end - 1) 0) whole ∙ get_or_at fore b [] 0 (end - 1) (sym place) in
          let same : get_or (take end text) (end - 1) 0 ≡ get_or text (end - 1) 0 = get_or-take end text (end - 1) 0 (omega (arith, some)) in
          subst (λ x. is_blank x ≡ false) (sym same ∙ here) (last some);
    }

-- ---- the first blank

pub blank_boundary : (text : List ℕ) (i : ℕ) → position is_blank text ≡ Some i → IsCharBoundary text i
blank_boundary text i found =
    let at = position-Some is_blank text i 0 found in
    IsCharBoundary-before_ascii text i at.0 (blank_ascii (get_or text i 0) at.1)

pub cut_there : (text front back : List ℕ) (i : ℕ) → position is_blank text ≡ Some i → front ≡ take i text → back ≡ drop i text → IsCutAtBlank text front back
cut_there text front back i found one two =
    let at = position-Some is_blank text i 0 found in
    record {
      split = sym (take-append-drop i text) ∙ ap (λ f. f ++ drop i text) (sym one) ∙ ap (λ r. front ++ r) (sym two);
      free = subst HasNoBlank (sym one) (all_before (λ b. is_blank b ≡ false) text i (omega (arith, at.0)) at.2);
      blank = λ b more e. begins_with (λ b. is_blank b ≡ true) text i at.0 at.1 b more (sym two ∙ e);
    }

pub cut_nowhere : (text : List ℕ) → position is_blank text ≡ None → text ≡ text ++ [] → IsCutAtBlank text text []
cut_nowhere text none whole = record {
  split = whole;
  free = all_of (λ b. is_blank b ≡ false) text (fails_all is_blank text none);
  blank = λ b more e. cc;
}
