-- How a text breaks into lines.
use Rattle.std.proofs.Common.{◌≡◌, ◌⊎◌, ℕ, suc, ◌+◌, ◌-◌, ◌<◌, Bool, true, false, List, [], ◌∷◌, ◌++◌, length, take, drop, get_or, map, Some, None, refl, sym, ap, ◌∙◌, subst, arith, append_assoc, add-one, length-append, length-drop, take_all, inr, ⊎_elim}
use Rattle.std.proofs.lemmas.Bool.{cases_Bool, cond-true, cond-false, eqb-true, eqb-false, false_from_ne_true}
use Rattle.std.proofs.lemmas.List.{append-nil, length-take-le, get_or-take, drop_all}
use Rattle.std.proofs.lemmas.Option.{get_or_from_slice_get, slice_get_within}
use Rattle.std.specs.List.{slice_get}
use Rattle.std.proofs.lemmas.List.Splits.{slice_split-cons_yes, slice_split-cons_no, slice_split_none, slice_split_at, length-slice_split}
use Rattle.std.proofs.lemmas.List.Elements.{All-from_get_or}
use Rattle.std.proofs.Math.Seq.{split_at}
use Rattle.std.specs.Prelude.{◌==◌}
use Rattle.std.specs.List.{slice_split, onto_first, All}
use Rattle.std.specs.Str.Lines.{strip_carriage_return}
use Rattle.memchr.specs.Find.{IsFirstByte, is_byte}
use Rattle.ga_line.specs.Lines.{unended_line, lines_of_pieces, lines, KeepsItsLines}
use Rattle.ga_base.specs.Lines.{IsEnded}
use Rattle.ga_base.specs.declared.limits.TheConstants.{LINE_FEED}

abbrev feeds : ℕ → Bool
feeds b = b == LINE_FEED

-- a piece that another follows is a line
lines_of_pieces-cons : (piece : List ℕ) (pieces : List (List ℕ)) (keep : Bool) → 0 < length pieces
    → lines_of_pieces (piece ∷ pieces) keep ≡ strip_carriage_return piece ∷ lines_of_pieces pieces keep
lines_of_pieces-cons piece [] keep some = absurd (omega arith)
lines_of_pieces-cons piece (next ∷ more) keep some = refl

lines_of_pieces-append : (pieces others : List (List ℕ)) (keep : Bool) → 0 < length others
    → lines_of_pieces (pieces ++ others) keep ≡ map strip_carriage_return pieces ++ lines_of_pieces others keep
lines_of_pieces-append [] others keep some = refl
lines_of_pieces-append (piece ∷ pieces) others keep some =
    lines_of_pieces-cons piece (pieces ++ others) keep (omega (arith, length-append pieces others))
    ∙ ap (λ ls. strip_carriage_return piece ∷ ls) (lines_of_pieces-append pieces others keep some)

some-piece : (text : List ℕ) → 0 < length (slice_split feeds text)
some-piece text = omega (arith, length-slice_split feeds text)

-- the line that the first line feed ends, and those after it
pub lines-first : (text : List ℕ) (keep : Bool) (end : ℕ) → IsFirstByte (is_byte 10) text (Some end)
    → lines text keep ≡ strip_carriage_return (take end text) ∷ lines (take (length text - (end + 1)) (drop (end + 1) text)) keep
lines-first text keep end first =
    let inside : end < length text = first.0.high in
    let whole : text ≡ take end text ++ get_or text end 0 ∷ drop (end + 1) text = rw add-one (split_at text end 0 inside) in
    let rest : take (length text - (end + 1)) (drop (end + 1) text) ≡ drop (end + 1) text =
    take_all (length text - (end + 1)) (drop (end + 1) text) (omega (arith, length-drop (end + 1) text)) in
    let none : All (λ x. feeds x ≡ false) (take end text) =
    All-from_get_or (λ x. feeds x ≡ false) (take end text) 0 (λ i lt.
    let below : i < end = omega (arith, length-take-le end text (omega arith)) in
    let same : get_or (take end text) i 0 ≡ get_or text i 0 = rw get_or-take refl in
    false_from_ne_true _ (λ yes. first.0.before i (omega arith) below (ap feeds (sym same) ∙ yes))) in
    rw rest (ap (λ t. lines_of_pieces (slice_split feeds t) keep) whole
    ∙ ap (λ ps. lines_of_pieces ps keep) (slice_split_at feeds (take end text) (get_or text end 0) (drop (end + 1) text) none first.1)
    ∙ lines_of_pieces-cons (take end text) (slice_split feeds (drop (end + 1) text)) keep (some-piece (drop (end + 1) text)))

-- a text without a line feed is one line, or none
pub lines-unended : (text : List ℕ) (keep : Bool) → IsFirstByte (is_byte 10) text None → lines text keep ≡ unended_line text keep
lines-unended text keep none =
    ap (λ ps. lines_of_pieces ps keep)
    (slice_split_none feeds text (All-from_get_or (λ x. feeds x ≡ false) text 0 (λ i lt. false_from_ne_true _ (λ yes. none i (omega arith) lt yes))))

-- the pieces up to a line feed don't depend on what follows it
pieces-before : (front : List ℕ) → (pieces : List (List ℕ)) × ((more : List ℕ) → slice_split feeds (front ++ LINE_FEED ∷ more) ≡ pieces ++ slice_split feeds more) × (0 < length pieces)
pieces-before [] = ([] ∷ [], λ more. refl, omega arith)
pieces-before (b ∷ front) =
    let rest = pieces-before front in
    ⊎_elim
    (λ yes. ([] ∷ rest.0, λ more. slice_split-cons_yes feeds b (front ++ LINE_FEED ∷ more) yes ∙ ap (λ ps. [] ∷ ps) (rest.1 more), omega arith))
    (λ no. onto b rest.0 rest.2 (λ more. slice_split feeds more) (λ more. slice_split feeds (b ∷ front ++ LINE_FEED ∷ more)) (λ more. slice_split-cons_no feeds b (front ++ LINE_FEED ∷ more) no ∙ ap (onto_first b) (rest.1 more)))
    (cases_Bool (feeds b))
  where
    onto : (b : ℕ) (pieces : List (List ℕ)) → 0 < length pieces → (later all : List ℕ → List (List ℕ))
        → ((more : List ℕ) → all more ≡ onto_first b (pieces ++ later more))
        → (pieces' : List (List ℕ)) × ((more : List ℕ) → all more ≡ pieces' ++ later more) × (0 < length pieces')
    onto b [] some later all h = absurd (omega arith)
    onto b (p ∷ ps) some later all h = ((b ∷ p) ∷ ps, h, omega arith)

after-feed : (front : List ℕ) → KeepsItsLines (front ++ LINE_FEED ∷ [])
after-feed front more keep =
    let pieces = pieces-before front in
    let start : lines (front ++ LINE_FEED ∷ []) false ≡ map strip_carriage_return pieces.0 =
    ap (λ ps. lines_of_pieces ps false) (pieces.1 [])
    ∙ lines_of_pieces-append pieces.0 ([] ∷ []) false (omega arith)
    ∙ append-nil (map strip_carriage_return pieces.0) in
    ap (λ t. lines t keep) (append_assoc front (LINE_FEED ∷ []) more)
    ∙ ap (λ ps. lines_of_pieces ps keep) (pieces.1 more)
    ∙ lines_of_pieces-append pieces.0 (slice_split feeds more) keep (some-piece more)
    ∙ ap (λ ls. ls ++ lines more keep) (sym start)

-- the lines of a text that was added to, where it was empty or ended in a line feed
pub lines-append : (text : List ℕ) → IsEnded text → KeepsItsLines text
lines-append text ended =
    ⊎_elim
    (λ empty. λ more keep. subst (λ t. lines (t ++ more) keep ≡ lines t false ++ lines more keep) (sym empty) refl)
    (λ fed. λ more keep. subst (λ t. lines (t ++ more) keep ≡ lines t false ++ lines more keep) (sym fed.1) (after-feed fed.0 more keep))
    ended

-- a text whose last byte is a line feed
pub IsEnded-last : (text : List ℕ) (b : ℕ) → Some b ≡ slice_get text (length text - 1) → b ≡ LINE_FEED → IsEnded text
IsEnded-last text b last feed =
    let at = length text - 1 in
    let inside : at < length text = slice_get_within text at b (sym last) in
    let byte : get_or text at 0 ≡ LINE_FEED = get_or_from_slice_get text at b 0 (sym last) ∙ feed in
    let past : drop (suc at) text ≡ [] = drop_all (suc at) text (omega arith) in
    inr (take at text, split_at text at 0 inside ∙ ap (λ x. take at text ++ x ∷ drop (suc at) text) byte ∙ ap (λ xs. take at text ++ LINE_FEED ∷ xs) past)

-- a text without a line feed is no line, where it isn't kept or is empty, and else it is one
pub lines-dropped : (text : List ℕ) (keep : Bool) → IsFirstByte (is_byte 10) text None → (keep ≡ false) ⊎ ((length text == 0) ≡ true) → lines text keep ≡ []
lines-dropped text keep none why = lines-unended text keep none ∙ nothing text keep why
  where
    nothing : (text : List ℕ) (keep : Bool) → (keep ≡ false) ⊎ ((length text == 0) ≡ true) → unended_line text keep ≡ []
    nothing [] keep why = refl
    nothing (b ∷ rest) keep why =
        ⊎_elim (λ off. cond-false _ _ _ off) (λ empty. let zero : length (b ∷ rest) ≡ 0 = eqb-true _ _ empty in absurd (omega arith)) why

pub lines-kept : (text : List ℕ) (keep : Bool) → IsFirstByte (is_byte 10) text None → keep ≡ true → (length text == 0) ≡ false → lines text keep ≡ text ∷ []
lines-kept text keep none on some = lines-unended text keep none ∙ one text keep on some
  where
    one : (text : List ℕ) (keep : Bool) → keep ≡ true → (length text == 0) ≡ false → unended_line text keep ≡ text ∷ []
    one [] keep on some = absurd (eqb-false 0 0 some refl)
    one (b ∷ rest) keep on some = cond-true _ _ _ on
