-- The first line of a text, and those after it.
use Rattle.std.proofs.Common.{◌≡◌, ◌≢◌, ℕ, ◌+◌, ◌<◌, false, List, [], ◌∷◌, length, take, drop, Some, None, refl, sym, ap, ◌∙◌, subst, arith, length-drop}
use Rattle.std.proofs.lemmas.Bool.{cond-false, ne_eqb}
use Rattle.std.proofs.lemmas.List.Elements.{All-from_get_or}
use Rattle.std.proofs.lemmas.List.Quantifiers.{position-Some}
use Rattle.std.proofs.lemmas.List.Splits.{slice_split_none, slice_split_first, length-slice_split}
use Rattle.std.proofs.lemmas.List.Sums.{position_or_len_is}
use Rattle.std.specs.List.{position, position_or_len, slice_split}
use Rattle.std.specs.Str.Lines.{lines, lines_of_parts, strip_carriage_return}
use Rattle.ga_conf.specs.Steps.{IsFirstLine, is_feed}
use Rattle.ga_conf.proofs.BlankLemmas.{fails_all}

parts-cons : (part : List ℕ) (parts : List (List ℕ)) → 0 < length parts → lines_of_parts (part ∷ parts) ≡ strip_carriage_return part ∷ lines_of_parts parts
parts-cons part [] some = absurd (omega arith)
parts-cons part (next ∷ more) some = refl

-- a line that a line feed ends
pub ended : (text line after : List ℕ) (end : ℕ) → position is_feed text ≡ Some end → line ≡ strip_carriage_return (take end text) → after ≡ drop (end + 1) text → IsFirstLine text line after
ended text line after end found one two =
    let at = position-Some is_feed text end 0 found in
    let place : position_or_len is_feed text ≡ end = position_or_len_is is_feed text end 0 (omega (arith, at.0)) at.2 (λ _. at.1) in
    let rest = drop (end + 1) text in
    let split : slice_split is_feed text ≡ take end text ∷ slice_split is_feed rest =
    slice_split_first is_feed text 0 (omega (arith, place, at.0)) ∙ ap (λ n. take n text ∷ slice_split is_feed (drop (n + 1) text)) place in
    let whole : lines text ≡ strip_carriage_return (take end text) ∷ lines rest =
    ap lines_of_parts split ∙ parts-cons (take end text) (slice_split is_feed rest) (omega (arith, length-slice_split is_feed rest)) in
    record {
      is = whole ∙ ap (λ l. l ∷ lines rest) (sym one) ∙ ap (λ r. line ∷ lines r) (sym two);
      shorter = subst (λ r. length r < length text) (sym two) (omega (arith, length-drop (end + 1) text, at.0));
    }

-- the last line, which no line feed ends
pub unended : (text : List ℕ) → text ≢ [] → position is_feed text ≡ None → IsFirstLine text text []
unended [] some none = absurd (some refl)
unended (b ∷ rest) some none =
    let text = b ∷ rest in
    let split : slice_split is_feed text ≡ text ∷ [] = slice_split_none is_feed text (All-from_get_or (λ x. is_feed x ≡ false) text 0 (fails_all is_feed text none)) in
    record {
      is = ap lines_of_parts split ∙ cond-false _ _ _ (ne_eqb (length text) 0 (λ e. omega arith));
      shorter = omega arith;
    }
