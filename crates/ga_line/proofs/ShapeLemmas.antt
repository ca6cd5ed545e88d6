-- Lines under a plain or a JSON format: the texts at the leaves, read leaf after leaf; one list of fields; whether a line fits.
use Rattle.std.proofs.Common.{◌≡◌, ◌≤◌, ◌<◌, ◌+◌, ℕ, Bool, true, false, List, [], ◌∷◌, ◌++◌, length, drop, get_or, arith, refl, sym, ◌∙◌, ap, subst, append_assoc, append-nil, inl, inr, ◌⊎◌, Option, Some, None}
use Rattle.std.specs.Prelude.{◌||◌, ◌==◌, not, filter}
use Rattle.std.specs.List.{find}
use Rattle.std.specs.Option.{option_map, option_or}
use Rattle.std.proofs.lemmas.Bool.{false≢true}
use Rattle.std.proofs.lemmas.Bool.Decides.{Decides-eqb}
use Rattle.std.proofs.lemmas.List.Elements.{filter-append}
use Rattle.std.proofs.lemmas.List.{drop_more}
use Rattle.std.proofs.lemmas.List.Folds.{find-append}
use Rattle.ga_base.specs.declared.formats.FormatItem.{FormatItem}
use Rattle.ga_base.specs.declared.record.TheConstants.{MAX_LINE}
use Rattle.ga_jsonlog.specs.declared.leaf.JsonLeaf.{JsonLeaf}
use Rattle.ga_jsonlog.specs.declared.pieces.Pieces.{Pieces}
use Rattle.ga_jsonlog.specs.declared.pieces.Pieces.TheVariants.{NoObject, Leaves}
use Rattle.ga_jsonlog.specs.Pieces.{PiecesOf}
use Rattle.ga_jsonlog.proofs.PieceLemmas.{one-texts}
use Rattle.ga_line.specs.declared.fields.Fields.{Fields}
use Rattle.ga_line.specs.declared.setup.Shape.{Shape}
use Rattle.ga_line.specs.declared.setup.Shape.TheVariants.{Plain, Json}
use Rattle.ga_line.specs.Fits.{Part, Fits}
use Rattle.ga_line.specs.Letters.{is_taken_letter}
use Rattle.ga_line.specs.Records.{IsPassedOver, taken_part}
use Rattle.ga_line.specs.Shapes.{FitsLeaves, FitsShape, has_taken, read_parts}
use Rattle.ga_line.specs.Steps.Fitting.{AreNoted, AreReadTo, ArePieces, noted_text, part_of}
use Rattle.ga_line.specs.Views.{HasPieces}
use Rattle.ga_line.proofs.UniqueFits.{Fits-unique}

-- ---- the fields that are read

-- whether the field is read where an earlier leaf has the time taken
abbrev untaken : Part → Bool
untaken part = not (is_taken_letter part.0)

kept-twice : (parts : List Part) → filter untaken (filter untaken parts) ≡ filter untaken parts
kept-twice [] = refl
kept-twice (part ∷ parts) = by (kept-twice parts) (is_taken_letter part.0) refl
  where
    by : filter untaken (filter untaken parts) ≡ filter untaken parts → (taken : Bool) → is_taken_letter part.0 ≡ taken → filter untaken (filter untaken (part ∷ parts)) ≡ filter untaken (part ∷ parts)
    by below true e = rw (e) below
    by below false e = rw (e, e) (ap (λ (ps : List Part). part ∷ ps) below)

-- what is left out by one leaf and then by another
read-read : (taken has : Bool) (later : List Part) → read_parts taken (read_parts has later) ≡ read_parts (taken || has) later
read-read false has later = refl
read-read true false later = refl
read-read true true later = kept-twice later

read-append : (taken : Bool) (own later : List Part) → read_parts taken (own ++ later) ≡ read_parts taken own ++ read_parts taken later
read-append false own later = refl
read-append true own later = filter-append untaken own later

read-none : (taken : Bool) → read_parts taken [] ≡ []
read-none false = refl
read-none true = refl

-- a field that is asked for isn't one of the time taken, so it is there as before
field-kept : (letter : ℕ) → is_taken_letter letter ≡ false → (parts : List Part) → find (λ (p : Part). p.0 == letter) (filter untaken parts) ≡ find (λ (p : Part). p.0 == letter) parts
field-kept letter is [] = refl
field-kept letter is (part ∷ parts) = by (field-kept letter is parts) (is_taken_letter part.0) (part.0 == letter) refl refl
  where
    test : Part → Bool
    test p = p.0 == letter

    by : find test (filter untaken parts) ≡ find test parts → (taken same : Bool) → is_taken_letter part.0 ≡ taken → (part.0 == letter) ≡ same → find test (filter untaken (part ∷ parts)) ≡ find test (part ∷ parts)
    by below true true e f = absurd (false≢true (sym is ∙ (ap is_taken_letter (sym ((Decides-eqb part.0 letter).0 f)) ∙ e)))
    by below true false e f = rw (e, f) below
    by below false true e f = rw (e, f) refl
    by below false false e f = rw (e, f) below

-- none of the fields that are kept is one of the time taken
taken-kept : (parts : List Part) → taken_part (filter untaken parts) ≡ None
taken-kept [] = refl
taken-kept (part ∷ parts) = by (taken-kept parts) (is_taken_letter part.0) refl
  where
    by : taken_part (filter untaken parts) ≡ None → (taken : Bool) → is_taken_letter part.0 ≡ taken → taken_part (filter untaken (part ∷ parts)) ≡ None
    by below true e = rw (e) below
    by below false e = rw (e, e) below

or-none : {A : Type 0} (first : Option A) → option_or first None ≡ first
or-none None = refl
or-none (Some x) = refl

-- the time taken of earlier leaves is kept
pub kept-noted : (before own : List Part) (old new : Fields) → AreNoted (before ++ own) old → new.texts ≡ old.texts → option_map part_of new.taken ≡ taken_part before → AreNoted (before ++ read_parts true own) new
kept-noted before own old new are texts taken = record {
  room = ap length texts ∙ are.room;
  texts = λ letter is.
      let p : Part → Bool = λ part. part.0 == letter in
      let was : noted_text letter new ≡ noted_text letter old = same-text letter in
      was ∙ (are.texts letter is ∙ ap (option_map (λ (part : Part). part.1))
      (find-append p before own ∙ (ap (option_or (find p before)) (sym (field-kept letter is.untaken own)) ∙ sym (find-append p before (filter untaken own)))));
  taken =
      let p : Part → Bool = λ part. is_taken_letter part.0 in
      taken ∙ sym (find-append p before (filter untaken own) ∙ (ap (option_or (find p before)) (taken-kept own) ∙ or-none (find p before)));
}
  where
    same-text : (letter : ℕ) → noted_text letter new ≡ noted_text letter old
    same-text letter = rw (texts) refl

-- ---- leaf after leaf

pub leaves-none : (leaves : List JsonLeaf) (pieces : List (Option (List ℕ))) → AreReadTo leaves pieces leaves pieces false []
leaves-none leaves pieces = record { back = λ later f. f; only = λ parts f. (parts, f, refl) }

joined : (before own later : List Part) (taken has : Bool) → before ++ read_parts taken (own ++ read_parts has later) ≡ (before ++ read_parts taken own) ++ read_parts (taken || has) later
joined before own later taken has =
    ap (λ (ps : List Part). before ++ ps) (read-append taken own (read_parts has later) ∙ ap (λ (ps : List Part). read_parts taken own ++ ps) (read-read taken has later))
    ∙ sym (append_assoc before (read_parts taken own) (read_parts (taken || has) later))

pub leaves-some : (leaves : List JsonLeaf) (pieces : List (Option (List ℕ))) (leaf : JsonLeaf) (left : List JsonLeaf) (piece : List ℕ) (rest : List (Option (List ℕ))) (taken : Bool) (before own : List Part)
    → AreReadTo leaves pieces (leaf ∷ left) (Some piece ∷ rest) taken before → Fits leaf.items piece own → AreReadTo leaves pieces left rest (taken || has_taken leaf.items) (before ++ read_parts taken own)
leaves-some leaves pieces leaf left piece rest taken before own to fits = record {
  back = λ later f.
      subst (FitsLeaves leaves pieces) (joined before own later taken (has_taken leaf.items)) (to.back (own ++ read_parts (has_taken leaf.items) later) (own, later, fits, f, refl));
  only = λ parts f.
      let step = to.only parts f in
      let inner = step.1 in
      let same : inner.0 ≡ own = Fits-unique leaf.items piece inner.0 own inner.2 fits in
      (inner.1, inner.3, step.2 ∙ (ap (λ (ps : List Part). before ++ read_parts taken ps) (inner.4 ∙ ap (λ (o : List Part). o ++ read_parts (has_taken leaf.items) inner.1) same) ∙ joined before own inner.1 taken (has_taken leaf.items)));
}

pub leaves-absent : (leaves : List JsonLeaf) (pieces : List (Option (List ℕ))) (leaf : JsonLeaf) (left : List JsonLeaf) (rest : List (Option (List ℕ))) (taken : Bool) (before : List Part)
    → AreReadTo leaves pieces (leaf ∷ left) (None ∷ rest) taken before → AreReadTo leaves pieces left rest (taken || has_taken leaf.items) before
leaves-absent leaves pieces leaf left rest taken before to = record {
  back = λ later f.
      subst (FitsLeaves leaves pieces) (ap (λ (ps : List Part). before ++ ps) (read-read taken (has_taken leaf.items) later)) (to.back (read_parts (has_taken leaf.items) later) (later, f, refl));
  only = λ parts f.
      let step = to.only parts f in
      let inner = step.1 in
      (inner.0, inner.1, step.2 ∙ ap (λ (ps : List Part). before ++ ps) (ap (read_parts taken) inner.2 ∙ read-read taken (has_taken leaf.items) inner.0));
}

pub leaves-all : (leaves : List JsonLeaf) (pieces : List (Option (List ℕ))) (taken : Bool) (before : List Part) → AreReadTo leaves pieces [] [] taken before → FitsLeaves leaves pieces before
leaves-all leaves pieces taken before to =
    subst (FitsLeaves leaves pieces) (ap (λ (ps : List Part). before ++ ps) (read-none taken) ∙ append-nil before) (to.back [] refl)

pub leaves-misfit : (leaves : List JsonLeaf) (pieces : List (Option (List ℕ))) (leaf : JsonLeaf) (left : List JsonLeaf) (piece : List ℕ) (rest : List (Option (List ℕ))) (taken : Bool) (before : List Part)
    → AreReadTo leaves pieces (leaf ∷ left) (Some piece ∷ rest) taken before → ((own : List Part) → ¬ Fits leaf.items piece own) → (parts : List Part) → ¬ FitsLeaves leaves pieces parts
leaves-misfit leaves pieces leaf left piece rest taken before to none parts f = let inner = (to.only parts f).1 in none inner.0 inner.2

-- the next leaf and its piece, at a place of both lists
pub read-at : (leaves : List JsonLeaf) (pieces : List (Option (List ℕ))) (at : ℕ) (leaf : JsonLeaf) (piece : Option (List ℕ)) (taken : Bool) (before : List Part) → at < length leaves → length pieces ≡ length leaves
    → get_or leaves at leaf ≡ leaf → get_or pieces at piece ≡ piece → AreReadTo leaves pieces (drop at leaves) (drop at pieces) taken before
    → AreReadTo leaves pieces (leaf ∷ drop (at + 1) leaves) (piece ∷ drop (at + 1) pieces) taken before
read-at leaves pieces at leaf piece taken before lt many is are to =
    let here : drop at leaves ≡ leaf ∷ drop (at + 1) leaves = drop_more leaves at leaf lt ∙ ap (λ (l : JsonLeaf). l ∷ drop (at + 1) leaves) is in
    let there : drop at pieces ≡ piece ∷ drop (at + 1) pieces = drop_more pieces at piece (omega (arith, lt, many)) ∙ ap (λ (p : Option (List ℕ)). p ∷ drop (at + 1) pieces) are in
    subst (λ (rest : List (Option (List ℕ))). AreReadTo leaves pieces (leaf ∷ drop (at + 1) leaves) rest taken before) there
    (subst (λ (left : List JsonLeaf). AreReadTo leaves pieces left (drop at pieces) taken before) here to)

-- ---- one list of fields

pub FitsLeaves-unique : (leaves : List JsonLeaf) (pieces : List (Option (List ℕ))) (p q : List Part) → FitsLeaves leaves pieces p → FitsLeaves leaves pieces q → p ≡ q
FitsLeaves-unique [] [] p q f g = f ∙ sym g
FitsLeaves-unique [] (piece ∷ pieces) p q f g = absurd f
FitsLeaves-unique (leaf ∷ leaves) [] p q f g = absurd f
FitsLeaves-unique (leaf ∷ leaves) (None ∷ pieces) p q (later, f, is) (later', g, is') =
    is ∙ (ap (read_parts (has_taken leaf.items)) (FitsLeaves-unique leaves pieces later later' f g) ∙ sym is')
FitsLeaves-unique (leaf ∷ leaves) (Some piece ∷ pieces) p q (own, later, fits, f, is) (own', later', fits', g, is') =
    is ∙ (ap (λ (o : List Part). o ++ read_parts (has_taken leaf.items) later) (Fits-unique leaf.items piece own own' fits fits')
    ∙ (ap (λ (l : List Part). own' ++ read_parts (has_taken leaf.items) l) (FitsLeaves-unique leaves pieces later later' f g) ∙ sym is'))

pub FitsShape-unique : (shape : Shape) (line : List ℕ) (p q : List Part) → FitsShape shape line p → FitsShape shape line q → p ≡ q
FitsShape-unique (Plain items) line p q f g = Fits-unique items line p q f g
FitsShape-unique (Json leaves) line p q (ps, has, f) (qs, has', g) =
    FitsLeaves-unique leaves qs p q (subst (λ (these : List (Option (List ℕ))). FitsLeaves leaves these p) (one-texts leaves line ps qs has has') f) g

-- ---- the pieces that are handed in

pub pieces-at : (shape : Shape) (line : List ℕ) (pieces : Pieces) → HasPieces shape line pieces → ¬ IsPassedOver line → length line ≤ MAX_LINE → ArePieces shape line pieces
pieces-at (Plain items) line pieces has read short = tt
pieces-at (Json leaves) line pieces has read short = has read short

-- the pieces as they are matched on
pub as-pieces : (shape : Shape) (leaves : List JsonLeaf) (line : List ℕ) (pieces matched : Pieces) → shape ≡ Json leaves → pieces ≡ matched → ArePieces shape line pieces → PiecesOf leaves line matched
as-pieces shape leaves line pieces matched is same are =
    subst (PiecesOf leaves line) same (subst (λ (s : Shape). ArePieces s line pieces) is are)

-- a line that is no object doesn't fit
pub no-object-misfit : (leaves : List JsonLeaf) (line : List ℕ) → PiecesOf leaves line NoObject → (parts : List Part) → ¬ FitsShape (Json leaves) line parts
no-object-misfit leaves line none parts (ps, (ms, is, are), f) = none ms is

-- nor one whose pieces don't
pub pieces-misfit : (leaves : List JsonLeaf) (line : List ℕ) (ps : List (Option (List ℕ))) → PiecesOf leaves line (Leaves ps) → ((parts : List Part) → ¬ FitsLeaves leaves ps parts) → (parts : List Part) → ¬ FitsShape (Json leaves) line parts
pieces-misfit leaves line ps has none parts (qs, has', f) = none parts (subst (λ (these : List (Option (List ℕ))). FitsLeaves leaves these parts) (one-texts leaves line qs ps has' has) f)

-- ---- whether a line fits

pub known-leaves : ((items : List FormatItem) (rest : List ℕ) → ((parts : List Part) × Fits items rest parts) ⊎ (((parts : List Part) × Fits items rest parts) → ⊥))
    → (leaves : List JsonLeaf) (pieces : List (Option (List ℕ))) → ((parts : List Part) × FitsLeaves leaves pieces parts) ⊎ (((parts : List Part) × FitsLeaves leaves pieces parts) → ⊥)
known-leaves known [] [] = inl ([], refl)
known-leaves known [] (piece ∷ pieces) = inr (λ (parts, f). f)
known-leaves known (leaf ∷ leaves) [] = inr (λ (parts, f). f)
known-leaves known (leaf ∷ leaves) (None ∷ pieces) = by (known-leaves known leaves pieces)
  where
    by : ((parts : List Part) × FitsLeaves leaves pieces parts) ⊎ (((parts : List Part) × FitsLeaves leaves pieces parts) → ⊥)
        → ((parts : List Part) × FitsLeaves (leaf ∷ leaves) (None ∷ pieces) parts) ⊎ (((parts : List Part) × FitsLeaves (leaf ∷ leaves) (None ∷ pieces) parts) → ⊥)
    by (inl (later, f)) = inl (read_parts (has_taken leaf.items) later, (later, f, refl))
    by (inr none) = inr (λ (parts, (later, f, is)). none (later, f))
known-leaves known (leaf ∷ leaves) (Some piece ∷ pieces) = by (known leaf.items piece) (known-leaves known leaves pieces)
  where
    by : ((own : List Part) × Fits leaf.items piece own) ⊎ (((own : List Part) × Fits leaf.items piece own) → ⊥)
        → ((parts : List Part) × FitsLeaves leaves pieces parts) ⊎ (((parts : List Part) × FitsLeaves leaves pieces parts) → ⊥)
        → ((parts : List Part) × FitsLeaves (leaf ∷ leaves) (Some piece ∷ pieces) parts) ⊎ (((parts : List Part) × FitsLeaves (leaf ∷ leaves) (Some piece ∷ pieces) parts) → ⊥)
    by (inl (own, fits)) (inl (later, f)) = inl (own ++ read_parts (has_taken leaf.items) later, (own, later, fits, f, refl))
    by (inl (own, fits)) (inr none) = inr (λ (parts, (other, later, g, f, is)). none (later, f))
    by (inr none) later = inr (λ (parts, (own, more, fits, f, is)). none (own, fits))
