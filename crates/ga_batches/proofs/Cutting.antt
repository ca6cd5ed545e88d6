-- Lines cut one by one.
use Rattle.std.proofs.Common.{◌≡◌, ℕ, ◌<◌, ◌≤◌, Bool, false, List, [], ◌∷◌, ◌++◌, length, take, map, refl, sym, ap, ◌∙◌, subst, arith, append_assoc, length-append, length-take, take_all, inl, inr, ⊎_elim}
use Rattle.std.proofs.lemmas.Bool.{cases_Bool, cases_lt, eqb-true, false_from_ne_true, false≢true}
use Rattle.std.proofs.lemmas.List.{append-nil, take-take, take-append-le, length-map, map-append}
use Rattle.std.proofs.lemmas.List.Splits.{slice_split-cons_yes, slice_split-cons_no, slice_split_none, slice_split_at, length-slice_split}
use Rattle.std.proofs.lemmas.List.Elements.{All-from_get_or, All-contains, All-nil, All-push, All-take, Contains-get_or, Contains-append_cases}
use Rattle.std.specs.Prelude.{◌==◌}
use Rattle.std.specs.List.{onto_first, join_with_byte, All, Contains}
use Rattle.ga_batches.specs.Lines.{pieces, cut_line, cut_lines}
use Rattle.ga_base.specs.Lines.{IsEnded}
use Rattle.ga_batches.specs.Laws.{CutsEachPiece, CutsOnce, CutsApart}
use Rattle.ga_base.specs.declared.limits.TheConstants.{LINE_FEED}
use Rattle.ga_batches.specs.declared.batcher.TheConstants.{LINE_HELD}

abbrev pub feeds : ℕ → Bool
feeds b = b == LINE_FEED

abbrev pub NoFeed : List ℕ → Type 0
NoFeed text = ¬ Contains text LINE_FEED

none-all : (text : List ℕ) → NoFeed text → All (λ b. feeds b ≡ false) text
none-all text none =
    All-from_get_or (λ b. feeds b ≡ false) text 0 (λ i lt. false_from_ne_true _ (λ yes. none (subst (λ b. Contains text b) (eqb-true _ _ yes) (Contains-get_or text i 0 lt))))

pub all-none : (text : List ℕ) → All (λ b. feeds b ≡ false) text → NoFeed text
all-none text all has = false≢true (sym (All-contains (λ b. feeds b ≡ false) text LINE_FEED all has))

pub none-nil : NoFeed []
none-nil = all-none [] (All-nil (λ b. feeds b ≡ false))

pub none-take : (n : ℕ) (text : List ℕ) → NoFeed text → NoFeed (take n text)
none-take n text none = all-none (take n text) (All-take (λ b. feeds b ≡ false) n text (none-all text none))

pub none-append : (text more : List ℕ) → NoFeed text → NoFeed more → NoFeed (text ++ more)
none-append text more none none' has = ⊎_elim none none' (Contains-append_cases text more LINE_FEED has)

none-push : (text : List ℕ) (b : ℕ) → NoFeed text → feeds b ≡ false → NoFeed (text ++ b ∷ [])
none-push text b none other = all-none (text ++ b ∷ []) (All-push (λ b. feeds b ≡ false) text b (none-all text none) other)

-- what holds of a text without a line feed, and of a line before a text of which it holds, holds of each text
module _ (P : List ℕ → Type 0) (base : (line : List ℕ) → NoFeed line → P line) (step : (line more : List ℕ) → NoFeed line → P more → P (line ++ LINE_FEED ∷ more)) where
  by-lines-from : (text line : List ℕ) → NoFeed line → P (line ++ text)
  by-lines-from [] line none = subst P (sym (append-nil line)) (base line none)
  by-lines-from (b ∷ text) line none =
      ⊎_elim
      (λ yes. subst (λ x. P (line ++ x ∷ text)) (sym (eqb-true b LINE_FEED yes)) (step line text none (by-lines-from text [] none-nil)))
      (λ other. subst P (append_assoc line (b ∷ []) text) (by-lines-from text (line ++ b ∷ []) (none-push line b none other)))
      (cases_Bool (feeds b))

  by-lines : (text : List ℕ) → P text
  by-lines text = by-lines-from text [] none-nil

some-piece : (text : List ℕ) → 0 < length (pieces text)
some-piece text = omega (arith, length-slice_split feeds text)

onto-append : (b : ℕ) (ps qs : List (List ℕ)) → 0 < length ps → onto_first b (ps ++ qs) ≡ onto_first b ps ++ qs
onto-append b [] qs some = absurd (omega arith)
onto-append b (p ∷ ps) qs some = refl

-- a line feed parts the pieces before it from those after it
pieces-feed : (front more : List ℕ) → pieces (front ++ LINE_FEED ∷ more) ≡ pieces front ++ pieces more
pieces-feed [] more = slice_split-cons_yes feeds LINE_FEED more refl
pieces-feed (b ∷ front) more =
    ⊎_elim
    (λ yes. slice_split-cons_yes feeds b (front ++ LINE_FEED ∷ more) yes
    ∙ ap (λ ps. [] ∷ ps) (pieces-feed front more)
    ∙ sym (ap (λ ps. ps ++ pieces more) (slice_split-cons_yes feeds b front yes)))
    (λ other. slice_split-cons_no feeds b (front ++ LINE_FEED ∷ more) other
    ∙ ap (onto_first b) (pieces-feed front more)
    ∙ onto-append b (pieces front) (pieces more) (some-piece front)
    ∙ sym (ap (λ ps. ps ++ pieces more) (slice_split-cons_no feeds b front other)))
    (cases_Bool (feeds b))

join-append : (ps qs : List (List ℕ)) → 0 < length ps → 0 < length qs → join_with_byte LINE_FEED (ps ++ qs) ≡ join_with_byte LINE_FEED ps ++ LINE_FEED ∷ join_with_byte LINE_FEED qs
join-append [] qs some others = absurd (omega arith)
join-append (p ∷ ps) [] some others = absurd (omega arith)
join-append (p ∷ []) (q ∷ qs) some others = refl
join-append (p ∷ p' ∷ ps) (q ∷ qs) some others =
    ap (λ x. p ++ LINE_FEED ∷ x) (join-append (p' ∷ ps) (q ∷ qs) (omega arith) others)
    ∙ sym (append_assoc p (LINE_FEED ∷ join_with_byte LINE_FEED (p' ∷ ps)) (LINE_FEED ∷ join_with_byte LINE_FEED (q ∷ qs)))

cut-feed : (front more : List ℕ) → cut_lines (front ++ LINE_FEED ∷ more) ≡ cut_lines front ++ LINE_FEED ∷ cut_lines more
cut-feed front more =
    ap (λ ps. join_with_byte LINE_FEED (map cut_line ps)) (pieces-feed front more)
    ∙ ap (λ ps. join_with_byte LINE_FEED ps) (map-append cut_line (pieces front) (pieces more))
    ∙ join-append (map cut_line (pieces front)) (map cut_line (pieces more))
    (omega (arith, length-map (pieces front) cut_line, some-piece front))
    (omega (arith, length-map (pieces more) cut_line, some-piece more))

-- a text without a line feed is one line
pub cut-none : (line : List ℕ) → NoFeed line → cut_lines line ≡ cut_line line
cut-none line none = ap (λ ps. join_with_byte LINE_FEED (map cut_line ps)) (slice_split_none feeds line (none-all line none))

pub cut-first : (line more : List ℕ) → NoFeed line → cut_lines (line ++ LINE_FEED ∷ more) ≡ cut_line line ++ LINE_FEED ∷ cut_lines more
cut-first line more none = cut-feed line more ∙ ap (λ x. x ++ LINE_FEED ∷ cut_lines more) (cut-none line none)

-- cut lines are no longer than whole ones
pub cut-short : (text : List ℕ) → length (cut_lines text) ≤ length text
cut-short text =
    by-lines (λ text. length (cut_lines text) ≤ length text)
    (λ line none. omega (arith, ap (λ (xs : List ℕ). length xs) (cut-none line none), length-take LINE_HELD line))
    (λ line more none short. omega (
      arith,
      ap (λ (xs : List ℕ). length xs) (cut-first line more none),
      length-append (cut_line line) (LINE_FEED ∷ cut_lines more),
      length-append line (LINE_FEED ∷ more),
      length-take LINE_HELD line,
      short,
    ))
    text

take-front : (n : ℕ) (line more : List ℕ) → take n (take n line ++ more) ≡ take n (line ++ more)
take-front n line more =
    ⊎_elim
    (λ long. take-append-le n (take n line) more (omega (arith, length-take n line))
    ∙ take-take n n line (omega arith)
    ∙ sym (take-append-le n line more (omega arith)))
    (λ short. ap (λ x. take n (x ++ more)) (take_all n line short))
    (cases_lt n (length line))

cut-line-again : (line : List ℕ) → cut_line (cut_line line) ≡ cut_line line
cut-line-again line = take-take LINE_HELD LINE_HELD line (omega arith)

-- a cut line goes on as the whole one does
again-none : (line : List ℕ) → NoFeed line → (more : List ℕ) → cut_lines (cut_line line ++ more) ≡ cut_lines (line ++ more)
again-none line none more = by-lines (λ more. cut_lines (cut_line line ++ more) ≡ cut_lines (line ++ more)) base step more
  where
    base : (more : List ℕ) → NoFeed more → cut_lines (cut_line line ++ more) ≡ cut_lines (line ++ more)
    base more none' =
        cut-none (cut_line line ++ more) (none-append (cut_line line) more (none-take LINE_HELD line none) none')
        ∙ take-front LINE_HELD line more
        ∙ sym (cut-none (line ++ more) (none-append line more none none'))

    step : (next more : List ℕ) → NoFeed next → cut_lines (cut_line line ++ more) ≡ cut_lines (line ++ more)
        → cut_lines (cut_line line ++ (next ++ LINE_FEED ∷ more)) ≡ cut_lines (line ++ (next ++ LINE_FEED ∷ more))
    step next more none' _ =
        ap cut_lines (sym (append_assoc (cut_line line) next (LINE_FEED ∷ more)))
        ∙ cut-first (cut_line line ++ next) more (none-append (cut_line line) next (none-take LINE_HELD line none) none')
        ∙ ap (λ x. x ++ LINE_FEED ∷ cut_lines more) (take-front LINE_HELD line next)
        ∙ sym (cut-first (line ++ next) more (none-append line next none none'))
        ∙ ap cut_lines (append_assoc line next (LINE_FEED ∷ more))

pub cuts-once : CutsOnce
cuts-once text more = by-lines (λ text. cut_lines (cut_lines text ++ more) ≡ cut_lines (text ++ more)) base step text
  where
    base : (line : List ℕ) → NoFeed line → cut_lines (cut_lines line ++ more) ≡ cut_lines (line ++ more)
    base line none = ap (λ x. cut_lines (x ++ more)) (cut-none line none) ∙ again-none line none more

    step : (line rest : List ℕ) → NoFeed line → cut_lines (cut_lines rest ++ more) ≡ cut_lines (rest ++ more)
        → cut_lines (cut_lines (line ++ LINE_FEED ∷ rest) ++ more) ≡ cut_lines ((line ++ LINE_FEED ∷ rest) ++ more)
    step line rest none so_far =
        ap (λ x. cut_lines (x ++ more)) (cut-first line rest none)
        ∙ ap cut_lines (append_assoc (cut_line line) (LINE_FEED ∷ cut_lines rest) more)
        ∙ cut-first (cut_line line) (cut_lines rest ++ more) (none-take LINE_HELD line none)
        ∙ ap (λ x. x ++ LINE_FEED ∷ cut_lines (cut_lines rest ++ more)) (cut-line-again line)
        ∙ ap (λ x. cut_line line ++ LINE_FEED ∷ x) so_far
        ∙ sym (cut-first line (rest ++ more) none)
        ∙ ap cut_lines (sym (append_assoc line (LINE_FEED ∷ rest) more))

pub cuts-apart : CutsApart
cuts-apart text more ended =
    ⊎_elim
    (λ empty. subst (λ x. cut_lines (x ++ more) ≡ cut_lines x ++ cut_lines more) (sym empty) refl)
    (λ fed. subst (λ x. cut_lines (x ++ more) ≡ cut_lines x ++ cut_lines more) (sym fed.1) (after-feed fed.0))
    ended
  where
    after-feed : (front : List ℕ) → cut_lines ((front ++ LINE_FEED ∷ []) ++ more) ≡ cut_lines (front ++ LINE_FEED ∷ []) ++ cut_lines more
    after-feed front =
        ap cut_lines (append_assoc front (LINE_FEED ∷ []) more)
        ∙ cut-feed front more
        ∙ sym (append_assoc (cut_lines front) (LINE_FEED ∷ []) (cut_lines more))
        ∙ ap (λ x. x ++ cut_lines more) (sym (cut-feed front []))

pub cuts-each-piece : CutsEachPiece
cuts-each-piece text = by-lines (λ text. pieces (cut_lines text) ≡ map cut_line (pieces text)) base step text
  where
    base : (line : List ℕ) → NoFeed line → pieces (cut_lines line) ≡ map cut_line (pieces line)
    base line none =
        ap pieces (cut-none line none)
        ∙ slice_split_none feeds (cut_line line) (none-all (cut_line line) (none-take LINE_HELD line none))
        ∙ sym (ap (λ ps. map cut_line ps) (slice_split_none feeds line (none-all line none)))

    step : (line more : List ℕ) → NoFeed line → pieces (cut_lines more) ≡ map cut_line (pieces more)
        → pieces (cut_lines (line ++ LINE_FEED ∷ more)) ≡ map cut_line (pieces (line ++ LINE_FEED ∷ more))
    step line more none so_far =
        ap pieces (cut-first line more none)
        ∙ slice_split_at feeds (cut_line line) LINE_FEED (cut_lines more) (none-all (cut_line line) (none-take LINE_HELD line none)) refl
        ∙ ap (λ ps. cut_line line ∷ ps) so_far
        ∙ sym (ap (λ ps. map cut_line ps) (slice_split_at feeds line LINE_FEED more (none-all line none) refl))

-- whole lines stay whole lines
pub ended-cut : (text : List ℕ) → IsEnded text → IsEnded (cut_lines text)
ended-cut text ended =
    ⊎_elim
    (λ empty. inl (ap cut_lines empty))
    (λ fed. inr (cut_lines fed.0, ap cut_lines fed.1 ∙ cut-feed fed.0 []))
    ended

pub ended-append : (text more : List ℕ) → IsEnded text → IsEnded more → IsEnded (text ++ more)
ended-append text more ended ended' =
    ⊎_elim
    (λ empty. subst (λ x. IsEnded (text ++ x)) (sym empty) (subst IsEnded (sym (append-nil text)) ended))
    (λ fed. inr (text ++ fed.0, ap (λ x. text ++ x) fed.1 ∙ sym (append_assoc text fed.0 (LINE_FEED ∷ []))))
    ended'
