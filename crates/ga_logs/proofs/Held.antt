-- A line and its front say the same, and so do a text and the text with its lines as they are held.
use Rattle.std.proofs.Common.{◌≡◌, ℕ, suc, ◌-◌, ◌<◌, ◌≤◌, Bool, true, false, List, [], ◌∷◌, ◌++◌, length, take, map, refl, sym, ap, ◌∙◌, subst, inl, inr, arith, get_or, ⊎_elim, take_all, length-take}
use Rattle.std.proofs.lemmas.List.{length-take-le}
use Rattle.std.specs.Prelude.{◌==◌, ◌↔◌, if◌then◌else◌, ⊤, Option}
use Rattle.std.specs.Str.Lines.{strip_carriage_return}
use Rattle.std.proofs.lemmas.Bool.{cases_lt}
use Rattle.ga_base.specs.declared.counts.Counter.{Counter}
use Rattle.ga_base.specs.declared.counts.Totals.{Totals}
use Rattle.ga_base.specs.declared.record.Line.{Line}
use Rattle.ga_base.specs.declared.record.Line.TheVariants.{Skipped, Failed, Good}
use Rattle.ga_batches.specs.Lines.{cut_line, cut_lines, pieces}
use Rattle.ga_batches.specs.Batches.{BatcherSeen, Feeds, held}
use Rattle.ga_batches.specs.Laws.{CutsEachPiece, CutsOnce}
use Rattle.ga_batches.specs.declared.batcher.TheConstants.{LINE_HELD}
use Rattle.ga_line.specs.Lines.{lines, lines_of_pieces, unended_line}
use Rattle.ga_base.specs.declared.record.TheConstants.{MAX_LINE}
use Rattle.ga_line.specs.Records.{IsLineOf, IsPassedOver}
use Rattle.ga_line.specs.Records.Fails.{too_long}
use Rattle.ga_line.specs.declared.setup.LineSetup.{LineSetup}
use Rattle.ga_outcomes.specs.LineOutcomes.{HaveOutcomes, HasOutcome, FillsAmong}
use Rattle.ga_outcomes.specs.declared.setup.Setup.{Setup}
use Rattle.ga_summary.specs.Outcomes.{Outcome}

-- ---- one line

-- what the one line says, the other does
abbrev pub SaysSame : List ℕ → List ℕ → Type 0
SaysSame a b = (setup : LineSetup) (said : Line) → IsLineOf setup a said ↔ IsLineOf setup b said

pub same-line : (a b : List ℕ) → a ≡ b → SaysSame a b
same-line a b e setup said =
    (λ h. subst (λ (l : List ℕ). IsLineOf setup l said) e h, λ h. subst (λ (l : List ℕ). IsLineOf setup l said) (sym e) h)

says-back : (a b : List ℕ) → SaysSame a b → SaysSame b a
says-back a b same setup said = let h = same setup said in (h.1, h.0)

says-then : (a b c : List ℕ) → SaysSame a b → SaysSame b c → SaysSame a c
says-then a b c same more setup said =
    let h = same setup said in
    let k = more setup said in
    (λ x. k.0 (h.0 x), λ x. h.1 (k.1 x))

-- both begin with this byte, and are longer than a line that is read
record AreLong (first : ℕ) (a b : List ℕ) : Type 0 where
  rest : List ℕ
  other : List ℕ
  is : a ≡ first ∷ rest
  is' : b ≡ first ∷ other
  long : MAX_LINE < length a
  long' : MAX_LINE < length b

passed-along : (first : ℕ) (a b rest other : List ℕ) → a ≡ first ∷ rest → b ≡ first ∷ other → IsPassedOver a → IsPassedOver b
passed-along first a b rest other e f (inl none) = absurd (let h : [] ≡ first ∷ rest = sym none ∙ e in cc h)
passed-along first a b rest other e f (inr (comment, is)) =
    let h : 35 ∷ comment ≡ first ∷ rest = sym is ∙ e in
    let same : first ≡ 35 = cc h in
    inr (other, f ∙ ap (λ (x : ℕ). x ∷ other) same)

long-says : (first : ℕ) (a b : List ℕ) → AreLong first a b → (setup : LineSetup) (said : Line) → IsLineOf setup a said → IsLineOf setup b said
long-says first a b l setup Skipped h = passed-along first a b l.rest l.other l.is l.is' h
long-says first a b l setup Failed (not, fails) = (λ passed. not (passed-along first b a l.other l.rest l.is' l.is passed), too_long l.long')
long-says first a b l setup (Good rec) (not, sound, more) = absurd (sound (too_long l.long))

long-same : (first : ℕ) (a b : List ℕ) → AreLong first a b → SaysSame a b
long-same first a b l setup said =
    let back : AreLong first b a = record { rest = l.other; other = l.rest; is = l.is'; is' = l.is; long = l.long'; long' = l.long } in
    (long-says first a b l setup said, long-says first b a back setup said)

-- a line without its carriage return begins as it did, and is shorter by one byte at most
strip-front : (b c : ℕ) (rest : List ℕ) → (r : List ℕ) × (strip_carriage_return (b ∷ c ∷ rest) ≡ b ∷ r) × (suc (length rest) ≤ length (strip_carriage_return (b ∷ c ∷ rest)))
strip-front b c rest = by (get_or (b ∷ c ∷ rest) (length (b ∷ c ∷ rest) - 1) 0 == 13)
  where
    by : (returns : Bool) → (r : List ℕ) × ((if returns then take (length (b ∷ c ∷ rest) - 1) (b ∷ c ∷ rest) else b ∷ c ∷ rest) ≡ b ∷ r)
        × (suc (length rest) ≤ length (if returns then take (length (b ∷ c ∷ rest) - 1) (b ∷ c ∷ rest) else b ∷ c ∷ rest))
    by true =
        let n : length (b ∷ c ∷ rest) - 1 ≡ suc (length rest) = omega arith in
        let whole : take (length (b ∷ c ∷ rest) - 1) (b ∷ c ∷ rest) ≡ b ∷ take (length rest) (c ∷ rest) = ap (λ (k : ℕ). take k (b ∷ c ∷ rest)) n in
        (take (length rest) (c ∷ rest), whole, omega (arith, ap length whole, length-take (length rest) (c ∷ rest)))
    by false = (c ∷ rest, refl, omega arith)

-- the front of a longer list is long
long-front : (most n : ℕ) (xs : List ℕ) → most < n → n < length xs → most < length (take n xs)
long-front most n xs less more = omega (arith, length-take-le n xs (omega arith))

long-whole : (most n : ℕ) (xs : List ℕ) → most < n → n < length xs → most < length xs
long-whole most n xs less more = omega arith

long-stripped : (most k : ℕ) (rest : List ℕ) → most ≤ length rest → suc (length (take most rest)) ≤ k → most < k
long-stripped most k rest le more = omega (arith, length-take-le most rest le)

long-behind : (most k : ℕ) (rest : List ℕ) → most ≤ length rest → suc (length rest) ≤ k → most < k
long-behind most k rest le more = omega arith

-- how many bytes follow the first two
behind-two : (n : ℕ) (b c : ℕ) (rest : List ℕ) → suc (suc n) < length (b ∷ c ∷ rest) → n ≤ length rest
behind-two n b c rest more = omega arith

-- a line as it is held says what the whole line says, with its carriage return taken off or not
held-long : (b c : ℕ) (rest : List ℕ) → LINE_HELD < length (b ∷ c ∷ rest) → AreLong b (cut_line (b ∷ c ∷ rest)) (b ∷ c ∷ rest)
held-long b c rest more = record {
  rest = take 65536 (c ∷ rest);
  other = c ∷ rest;
  is = refl;
  is' = refl;
  long = long-front MAX_LINE LINE_HELD (b ∷ c ∷ rest) (omega arith) more;
  long' = long-whole MAX_LINE LINE_HELD (b ∷ c ∷ rest) (omega arith) more;
}

held-stripped : (b c : ℕ) (rest : List ℕ) → LINE_HELD < length (b ∷ c ∷ rest)
    → AreLong b (strip_carriage_return (cut_line (b ∷ c ∷ rest))) (strip_carriage_return (b ∷ c ∷ rest))
held-stripped b c rest more =
    let whole = strip-front b c rest in
    let cut = strip-front b c (take 65535 rest) in
    let behind = behind-two 65535 b c rest more in
    record {
      rest = cut.0;
      other = whole.0;
      is = cut.1;
      is' = whole.1;
      long = long-stripped MAX_LINE _ rest behind cut.2;
      long' = long-behind MAX_LINE _ rest behind whole.2;
    }

-- a line that is held whole
short-line : (n : ℕ) (xs : List ℕ) → length xs ≤ n → take n xs ≡ xs
short-line n xs le = take_all n xs le

pub held-line : (line : List ℕ) → SaysSame (cut_line line) line
held-line [] = same-line _ _ refl
held-line (b ∷ []) = same-line _ _ refl
held-line (b ∷ c ∷ rest) =
    ⊎_elim (λ long. long-same b _ _ (held-long b c rest long)) (λ short. same-line _ _ (short-line LINE_HELD (b ∷ c ∷ rest) short)) (cases_lt LINE_HELD (length (b ∷ c ∷ rest)))

pub held-piece : (line : List ℕ) → SaysSame (strip_carriage_return (cut_line line)) (strip_carriage_return line)
held-piece [] = same-line _ _ refl
held-piece (b ∷ []) = same-line _ _ refl
held-piece (b ∷ c ∷ rest) =
    ⊎_elim (λ long. long-same b _ _ (held-stripped b c rest long))
    (λ short. same-line _ _ (ap strip_carriage_return (short-line LINE_HELD (b ∷ c ∷ rest) short))) (cases_lt LINE_HELD (length (b ∷ c ∷ rest)))

-- ---- lines one by one

-- each of the lines says what the other in its place says
abbrev pub SayTheSame : List (List ℕ) → List (List ℕ) → Type 0
SayTheSame [] [] = ⊤
SayTheSame [] (b ∷ ys) = ⊥
SayTheSame (a ∷ xs) [] = ⊥
SayTheSame (a ∷ xs) (b ∷ ys) = SaysSame a b × SayTheSame xs ys

comes-along : (setup : Setup) (a b : List ℕ) (outcome : Option Outcome) → SaysSame a b → HasOutcome setup a outcome → HasOutcome setup b outcome
comes-along setup a b outcome same (said, says, is) = (said, (same setup.line said).0 says, is)

say-back : (xs ys : List (List ℕ)) → SayTheSame xs ys → SayTheSame ys xs
say-back [] [] same = tt
say-back [] (b ∷ ys) same = absurd same
say-back (a ∷ xs) [] same = absurd same
say-back (a ∷ xs) (b ∷ ys) (first, more) = (says-back a b first, say-back xs ys more)

say-then : (xs ys zs : List (List ℕ)) → SayTheSame xs ys → SayTheSame ys zs → SayTheSame xs zs
say-then [] [] [] same next = tt
say-then [] [] (c ∷ zs) same next = absurd next
say-then [] (b ∷ ys) zs same next = absurd same
say-then (a ∷ xs) [] zs same next = absurd same
say-then (a ∷ xs) (b ∷ ys) [] same next = absurd next
say-then (a ∷ xs) (b ∷ ys) (c ∷ zs) (first, more) (first', more') = (says-then a b c first first', say-then xs ys zs more more')

pub have_outcomes-along : (setup : Setup) (xs ys : List (List ℕ)) (os : List Outcome) → SayTheSame xs ys → HaveOutcomes setup xs os → HaveOutcomes setup ys os
have_outcomes-along setup [] [] os same h = h
have_outcomes-along setup [] (b ∷ ys) os same h = absurd same
have_outcomes-along setup (a ∷ xs) [] os same h = absurd same
have_outcomes-along setup (a ∷ xs) (b ∷ ys) os (first, more) (one, rest, comes, have_outcomes, is) =
    (one, rest, comes-along setup a b one first comes, have_outcomes-along setup xs ys rest more have_outcomes, is)

pub have_outcomes-both : (setup : Setup) (xs ys : List (List ℕ)) (os : List Outcome) → SayTheSame xs ys → HaveOutcomes setup xs os ↔ HaveOutcomes setup ys os
have_outcomes-both setup xs ys os same = (have_outcomes-along setup xs ys os same, have_outcomes-along setup ys xs os (say-back xs ys same))

-- what is in front, and what after
split-along : (front back ys : List (List ℕ)) → SayTheSame (front ++ back) ys
    → (front' : List (List ℕ)) × (back' : List (List ℕ)) × (ys ≡ front' ++ back') × SayTheSame front front'
split-along [] back ys same = ([], ys, refl, tt)
split-along (a ∷ front) back [] same = absurd same
split-along (a ∷ front) back (b ∷ ys) (first, more) =
    let (front', back', is, same) = split-along front back ys more in
    (b ∷ front', back', ap (λ (x : List (List ℕ)). b ∷ x) is, (first, same))

pub fills-along : (setup : Setup) (start : Totals) (xs ys : List (List ℕ)) (which : Counter) (total : ℕ) → SayTheSame xs ys → FillsAmong setup start xs which total
    → FillsAmong setup start ys which total
fills-along setup start xs ys which total same h =
    let (front', back', is, say) = split-along h.front h.back ys (subst (λ (x : List (List ℕ)). SayTheSame x ys) h.split same) in
    record { front = front'; back = back'; split = is; outcomes = h.outcomes; have_outcomes = have_outcomes-along setup h.front front' h.outcomes say h.have_outcomes; full = h.full }

-- the lines in front say the same
pub behind-same : (before xs ys : List (List ℕ)) → SayTheSame xs ys → SayTheSame (before ++ xs) (before ++ ys)
behind-same [] xs ys same = same
behind-same (a ∷ before) xs ys same = (same-line a a refl, behind-same before xs ys same)

-- ---- a text

held-unended : (rest : List ℕ) (keep : Bool) → SayTheSame (unended_line (cut_line rest) keep) (unended_line rest keep)
held-unended [] keep = tt
held-unended (b ∷ rest) true = (held-line (b ∷ rest), tt)
held-unended (b ∷ rest) false = tt

held-pieces : (ps : List (List ℕ)) (keep : Bool) → SayTheSame (lines_of_pieces (map cut_line ps) keep) (lines_of_pieces ps keep)
held-pieces [] keep = tt
held-pieces (rest ∷ []) keep = held-unended rest keep
held-pieces (piece ∷ next ∷ more) keep = (held-piece piece, held-pieces (next ∷ more) keep)

-- the lines of a text with its lines as they are held say what those of the text say
pub held-lines : CutsEachPiece → (text : List ℕ) (keep : Bool) → SayTheSame (lines (cut_lines text) keep) (lines text keep)
held-lines law text keep =
    subst (λ (ps : List (List ℕ)). SayTheSame (lines_of_pieces ps keep) (lines text keep)) (sym (law text)) (held-pieces (pieces text) keep)

-- what is held once bytes were fed says what was held before and the bytes say, whatever follows
pub fed-lines : CutsEachPiece → CutsOnce → (bytes more : List ℕ) (old new : BatcherSeen) (keep : Bool) → Feeds bytes old new
    → SayTheSame (lines (held new ++ more) keep) (lines ((held old ++ bytes) ++ more) keep)
fed-lines pieces once bytes more old new keep feeds =
    let now = held new ++ more in
    let all = (held old ++ bytes) ++ more in
    let same : cut_lines now ≡ cut_lines all = ap (λ (t : List ℕ). cut_lines (t ++ more)) feeds.lines ∙ once (held old ++ bytes) more in
    let cut = subst (λ (t : List ℕ). SayTheSame (lines t keep) (lines all keep)) (sym same) (held-lines pieces all keep) in
    say-then (lines now keep) (lines (cut_lines now) keep) (lines all keep) (say-back (lines (cut_lines now) keep) (lines now keep) (held-lines pieces now keep)) cut
