-- A cut after a line parts the lines of a text, and how many lines a piece has.
use Rattle.std.proofs.Common.{◌≡◌, ℕ, ◌+◌, ◌<◌, ◌≤◌, Bool, true, false, List, [], ◌∷◌, ◌++◌, length, take, drop, get_or, map, Bor, Some, None, sym, ap, ◌∙◌, refl, subst, append-nil, append_assoc, arith, inr, length-append, length-drop}
use Rattle.std.specs.Prelude.{◌==◌}
use Rattle.std.specs.List.{All}
use Rattle.std.proofs.Math.Seq.{take-add}
use Rattle.std.proofs.lemmas.Bool.{eqb-true, false_from_ne_true}
use Rattle.std.proofs.lemmas.List.{take-append-drop, length-take-le, take_more, get_or-take, map-append}
use Rattle.std.proofs.lemmas.List.Elements.{All-from_get_or, All-push}
use Rattle.std.proofs.lemmas.List.Splits.{slice_split_at, slice_split_none}
use Rattle.memchr.specs.Find.{IsFirstByte, is_byte}
use Rattle.ga_base.specs.Lines.{IsEnded}
use Rattle.ga_base.specs.declared.limits.TheConstants.{LINE_FEED}
use Rattle.ga_line.specs.Lines.{KeepsItsLines, lines, lines_of_pieces, unended_line}
use Rattle.ga_workers.specs.Steps.Drawing.{AreShort}

-- the lines of a text that is ended, whether the rest is kept or not
ended-lines : (text : List ℕ) → KeepsItsLines text → lines text true ≡ lines text false
ended-lines text keeps = sym (ap (λ (t : List ℕ). lines t true) (append-nil text)) ∙ keeps [] true ∙ append-nil (lines text false)

pub apart : (n : ℕ) (text : List ℕ) → KeepsItsLines (take n text) → lines text true ≡ lines (take n text) true ++ lines (drop n text) true
apart n text keeps =
    sym (ap (λ (t : List ℕ). lines t true) (take-append-drop n text)) ∙ keeps (drop n text) true
    ∙ ap (λ (ls : List (List ℕ)). ls ++ lines (drop n text) true) (sym (ended-lines (take n text) keeps))

-- ---- how many lines

abbrev is_feed : ℕ → Bool
is_feed b = b == LINE_FEED

-- no byte of the text ends a line
abbrev NoneEnds : List ℕ → Type 0
NoneEnds text = All (λ b. is_feed b ≡ false) text

none-ends : (text : List ℕ) → IsFirstByte (is_byte LINE_FEED) text None → NoneEnds text
none-ends text none = All-from_get_or (λ b. is_feed b ≡ false) text 0 (λ i lt. false_from_ne_true _ (λ yes. none i (omega arith) lt yes))

none-before : (text : List ℕ) (end : ℕ) → IsFirstByte (is_byte LINE_FEED) text (Some end) → NoneEnds (take end text)
none-before text end first =
    let inside : end < length text = first.0.high in
    All-from_get_or (λ b. is_feed b ≡ false) (take end text) 0 (λ i lt.
    let below : i < end = omega (arith, length-take-le end text (omega arith)) in
    let same : get_or (take end text) i 0 ≡ get_or text i 0 = get_or-take end text i 0 below in
    false_from_ne_true _ (λ yes. first.0.before i (omega arith) below (ap is_feed (sym same) ∙ yes)))

-- a text in which no line ends has one line at most, and with a line feed after it one
few-unended : (text : List ℕ) → length (unended_line text true) ≤ 1
few-unended [] = omega arith
few-unended (b ∷ rest) = omega arith

few-lines : (text : List ℕ) → NoneEnds text → length (lines text true) ≤ 1
few-lines text none = omega (arith, ap (λ (ps : List (List ℕ)). length (lines_of_pieces ps true)) (slice_split_none is_feed text none), few-unended text)

one-line : (text : List ℕ) → NoneEnds text → length (lines (text ++ LINE_FEED ∷ []) true) ≡ 1
one-line text none = ap (λ (ps : List (List ℕ)). length (lines_of_pieces ps true)) (slice_split_at is_feed text LINE_FEED [] none refl)

module _ (bytes rest : List ℕ) (at : ℕ) (is : rest ≡ drop at bytes) (keeps : KeepsItsLines (take at bytes)) where
  -- lines after those of a front
  behind : (more : List ℕ) → length (lines (take at bytes ++ more) true) ≡ length (lines (take at bytes) true) + length (lines more true)
  behind more =
      ap (λ (ls : List (List ℕ)). length ls) (keeps more true) ∙ length-append (lines (take at bytes) false) (lines more true)
      ∙ ap (λ (ls : List (List ℕ)). length ls + length (lines more true)) (sym (ended-lines (take at bytes) keeps))

  module _ (end : ℕ) (first : IsFirstByte (is_byte LINE_FEED) rest (Some end)) where
    -- the next line, with its line feed
    next : take (end + 1) rest ≡ take end rest ++ LINE_FEED ∷ []
    next =
        let byte : get_or rest end 0 ≡ LINE_FEED = eqb-true _ _ first.1 in
        take_more rest end 0 first.0.high ∙ ap (λ (b : ℕ). take end rest ++ b ∷ []) byte

    with-next : take (at + (end + 1)) bytes ≡ take at bytes ++ take (end + 1) rest
    with-next = take-add at (end + 1) bytes ∙ ap (λ (t : List ℕ). take at bytes ++ take (end + 1) t) (sym is)

    -- one line more
    pub line-more : length (lines (take (at + (end + 1)) bytes) true) ≡ length (lines (take at bytes) true) + 1
    line-more =
        let one : length (lines (take (end + 1) rest) true) ≡ 1 = ap (λ (t : List ℕ). length (lines t true)) next ∙ one-line (take end rest) (none-before rest end first) in
        omega (arith, ap (λ (t : List ℕ). length (lines t true)) with-next, behind (take (end + 1) rest), one)

    pub ended-more : IsEnded (take (at + (end + 1)) bytes)
    ended-more = inr (
      take at bytes ++ take end rest,
      with-next ∙ ap (λ (t : List ℕ). take at bytes ++ t) next ∙ sym (append_assoc (take at bytes) (take end rest) (LINE_FEED ∷ [])),
    )

    pub within-more : at + (end + 1) ≤ length bytes
    within-more = let long = first.0.high in omega (arith, long, ap (λ (t : List ℕ). length t) is, length-drop at bytes)

  -- what is left, in which no line ends
  pub rest-more : IsFirstByte (is_byte LINE_FEED) rest None → length (lines bytes true) ≤ length (lines (take at bytes) true) + 1
  rest-more none =
      let whole : take at bytes ++ rest ≡ bytes = ap (λ (t : List ℕ). take at bytes ++ t) is ∙ take-append-drop at bytes in
      omega (arith, ap (λ (t : List ℕ). length (lines t true)) whole, behind rest, few-lines rest (none-ends rest none))

-- a short piece more
pub short-push : (most : ℕ) (pieces : List (Bor (List ℕ))) (piece : Bor (List ℕ)) → AreShort most (map (λ p. p.now) pieces) → length (lines piece.now true) ≤ most
    → AreShort most (map (λ p. p.now) (pieces ++ piece ∷ []))
short-push most pieces piece are short =
    subst (AreShort most) (sym (map-append (λ (p : Bor (List ℕ)). p.now) pieces (piece ∷ [])))
    (All-push (λ (t : List ℕ). length (lines t true) ≤ most) (map (λ (p : Bor (List ℕ)). p.now) pieces) piece.now are short)
