-- The lines that `lines` of bstr gives are those of std's definition.
use Rattle.std.proofs.Common.{◌≡◌, ◌⊎◌, ℕ, zero, suc, ◌+◌, ◌-◌, ◌<◌, ◌≤◌, Bool, true, false, cond, List, [], ◌∷◌, ◌++◌, length, take, drop, get_or, map, Some, refl, sym, ap, ◌∙◌, subst, arith, length-append, length-drop, inl, inr}
use Rattle.std.specs.Prelude.{◌==◌, ◌&&◌, nat_lt}
use Rattle.std.proofs.lemmas.Bool.{cond-true, cond-false, lt-ltb, eqb-true, ne_eqb, cases_lt}
use Rattle.std.proofs.lemmas.List.{take_at, take_rest, take_more, get_or_at}
use Rattle.std.proofs.lemmas.List.Elements.{All-from_get_or}
use Rattle.std.proofs.lemmas.List.Splits.{slice_split_none, slice_split_first, length-slice_split}
use Rattle.std.proofs.lemmas.List.Sums.{fails_before_first, passes_at_first}
use Rattle.std.specs.List.{slice_split, position_or_len}
use Rattle.std.specs.Str.Lines.{lines, lines_of_parts, strip_carriage_return}
use Rattle.bstr.proofs.lemmas.LengthLemmas.{length-lines}
use Rattle.bstr.proofs.lemmas.LineLemmas.{lines-nil, lines-first, lines-whole}
use Rattle.bstr.specs.Find.{IsFirstByte, is_byte}
use Rattle.bstr.specs.Text.{lines_of, no_cr, without_terminator}

abbrev feeds : ℕ → Bool
feeds b = b == 10

no_cr-strips : (xs : List ℕ) → no_cr xs ≡ strip_carriage_return xs
no_cr-strips [] = refl
no_cr-strips (x ∷ xs) =
    let l = x ∷ xs in
    ap (λ b. cond (b && (get_or l (length l - 1) 0 == 13)) (take (length l - 1) l) l) (lt-ltb 0 (length l) (omega arith))

-- a piece and its line feed
without_feed : (xs : List ℕ) → without_terminator (xs ++ 10 ∷ []) ≡ strip_carriage_return xs
without_feed xs =
    let line = xs ++ 10 ∷ [] in
    let long = length-append xs (10 ∷ []) in
    let last : length line - 1 ≡ length xs = omega (arith, long) in
    let here : get_or line (length line - 1) 0 ≡ 10 = ap (λ k. get_or line k 0) last ∙ get_or_at xs 10 [] 0 (length xs) refl in
    let ends : (nat_lt 0 (length line) && (get_or line (length line - 1) 0 == 10)) ≡ true =
    ap (λ b. b && (get_or line (length line - 1) 0 == 10)) (lt-ltb 0 (length line) (omega (arith, long))) ∙ ap (λ b. true && (b == 10)) here in
    cond-true _ _ _ ends ∙ ap (λ k. no_cr (take k line)) last ∙ ap no_cr (take_at xs (10 ∷ []) (length xs) refl) ∙ no_cr-strips xs

-- what follows the last line feed
without_none : (xs : List ℕ) → ((k : ℕ) → k < length xs → feeds (get_or xs k 0) ≡ false) → without_terminator xs ≡ xs
without_none [] none = refl
without_none (x ∷ xs) none =
    let l = x ∷ xs in
    let ends : (nat_lt 0 (length l) && (get_or l (length l - 1) 0 == 10)) ≡ false =
    ap (λ b. b && (get_or l (length l - 1) 0 == 10)) (lt-ltb 0 (length l) (omega arith)) ∙ none (length l - 1) (omega arith) in
    cond-false _ _ _ ends

parts-cons : (part : List ℕ) (parts : List (List ℕ)) → 0 < length parts → lines_of_parts (part ∷ parts) ≡ strip_carriage_return part ∷ lines_of_parts parts
parts-cons part [] some = absurd (omega arith)
parts-cons part (next ∷ more) some = refl

-- the line that the first line feed ends, and those after it
fed : (text : List ℕ) → position_or_len feeds text < length text
    → map without_terminator (lines_of (drop (position_or_len feeds text + 1) text)) ≡ lines (drop (position_or_len feeds text + 1) text) → map without_terminator (lines_of text) ≡ lines text
fed text inside later =
    let e = position_or_len feeds text in
    let rest = drop (e + 1) text in
    let here : feeds (get_or text e 0) ≡ true = passes_at_first feeds text 0 inside in
    let first : IsFirstByte (is_byte 10) text (Some e) = (record { low = omega arith; high = inside; before = λ k low lt yes. let no = fails_before_first feeds text k 0 lt in let clash : true ≡ false = sym yes ∙ no in cc }, here) in
    let piece : take (e + 1) text ≡ take e text ++ 10 ∷ [] = take_more text e 0 inside ∙ ap (λ b. take e text ++ b ∷ []) (eqb-true _ _ here) in
    let left : map without_terminator (lines_of text) ≡ strip_carriage_return (take e text) ∷ map without_terminator (lines_of rest) =
    ap (map without_terminator) (lines-first text e first ∙ ap (λ r. take (e + 1) text ∷ lines_of r) (take_rest text (e + 1)))
    ∙ ap (λ l. l ∷ map without_terminator (lines_of rest)) (ap without_terminator piece ∙ without_feed (take e text)) in
    left ∙ ap (λ ls. strip_carriage_return (take e text) ∷ ls) later
    ∙ sym (ap lines_of_parts (slice_split_first feeds text 0 inside) ∙ parts-cons (take e text) (slice_split feeds rest) (omega (arith, length-slice_split feeds rest)))

-- the one line of a text without a line feed
unfed : (text : List ℕ) → ((k : ℕ) → k < length text → feeds (get_or text k 0) ≡ false) → map without_terminator (lines_of text) ≡ lines text
unfed [] none = ap (map without_terminator) lines-nil
unfed (b ∷ rest) none =
    let text = b ∷ rest in
    let n = length text in
    let zero_left : n - n ≡ 0 = omega arith in
    let gone : take (n - n) (drop n text) ≡ [] = ap (λ k. take k (drop n text)) zero_left in
    let whole : lines_of text ≡ text ∷ [] = lines-whole text (omega arith) (λ k low lt yes. let no = none k lt in let clash : true ≡ false = sym yes ∙ no in cc)
    ∙ ap (λ r. text ∷ lines_of r) gone ∙ ap (λ ls. text ∷ ls) lines-nil in
    ap (map without_terminator) whole ∙ ap (λ l. l ∷ []) (without_none text none)
    ∙ sym (ap lines_of_parts (slice_split_none feeds text (All-from_get_or (λ x. feeds x ≡ false) text 0 none))
    ∙ cond-false _ _ _ (ne_eqb (length text) 0 (λ e. omega arith)))

lines_within : (n : ℕ) (text : List ℕ) → length text ≤ n → map without_terminator (lines_of text) ≡ lines text
lines_within n text within = by_place n text within (cases_lt (position_or_len feeds text) (length text))
  where
    by_place : (n : ℕ) (text : List ℕ) → length text ≤ n → (position_or_len feeds text < length text) ⊎ (length text ≤ position_or_len feeds text) → map without_terminator (lines_of text) ≡ lines text
    by_place n text within (inr none) = unfed text (λ k lt. fails_before_first feeds text k 0 (omega arith))
    by_place zero text within (inl inside) = absurd (omega arith)
    by_place (suc n) text within (inl inside) =
        let rest = drop (position_or_len feeds text + 1) text in
        fed text inside (by_place n rest (omega (arith, length-drop (position_or_len feeds text + 1) text)) (cases_lt (position_or_len feeds rest) (length rest)))

pub same_lines : (text : List ℕ) → map without_terminator (lines_of text) ≡ lines text
same_lines text = lines_within (length text) text (omega arith)

pub few_lines : (text : List ℕ) → length (lines text) ≤ length text
few_lines text = subst (λ ls. length ls ≤ length text) (same_lines text) (length-lines text)
