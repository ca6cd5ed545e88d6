-- What workers drew is all pieces, each once, so what they counted is the outcomes of the batch's lines.
use Rattle.std.proofs.Common.{◌≡◌, ℕ, zero, suc, ◌+◌, ◌<◌, ◌≤◌, Bool, true, false, cond, eqb, ltb, List, [], ◌∷◌, ◌++◌, length, map, take, get_or, refl, sym, ap, ◌∙◌, subst, arith, append_assoc, append-nil, length-append, inl, inr}
use Rattle.std.specs.List.{All, flat_map}
use Rattle.std.proofs.lemmas.List.{map-append, take_more, take_all}
use Rattle.std.proofs.lemmas.List.Concat.{flat_map-cons}
use Rattle.std.proofs.lemmas.Grind.{flat_map-append}
use Rattle.std.proofs.lemmas.List.Elements.{All-append, All-push, All-nil, All-head, All-tail, All-cons, filter-append}
use Rattle.std.proofs.lemmas.List.Sums.{sum_by-cons, sum_by-append}
use Rattle.std.proofs.lemmas.Bool.{eqb-true}
use Rattle.std.proofs.lemmas.Bool.Decides.{nat_tests}
use Rattle.ga_line.specs.Lines.{lines}
use Rattle.ga_summary.specs.Outcomes.{Outcome}
use Rattle.ga_summary.specs.Sound.{AllCountable}
use Rattle.ga_outcomes.specs.LineOutcomes.{HaveOutcomes}
use Rattle.ga_tallies.specs.Tallies.{AreTalliesOf, IsTallyOf, TakesIn, TallySeen, together}
use Rattle.ga_outcomes.specs.declared.setup.Setup.{Setup}
use Rattle.ga_draws.specs.Draws.{AreAllBelow, once_below, times}
use Rattle.ga_workers.specs.Steps.Drawing.{AllCount, Came, IsCame, IsDone, TalliesDrawn, all_lines, of_pieces, outcomes_in}
use Rattle.ga_workers.specs.Together.{AreAlike, CountOnApart, CountsOn}
use Rattle.ga_workers.proofs.Alike.{alike-append, alike-refl, alike-same, alike-swap, alike-trans, countable-append}
use Rattle.ga_outcomes.proofs.Behind.{have_outcomes-append}

-- a number more was drawn
of_pieces-push : (n number : ℕ) (drawn : List ℕ) → of_pieces n (drawn ++ number ∷ []) ≡ of_pieces n drawn ++ cond (ltb number n) (number ∷ []) []
of_pieces-push n number drawn = filter-append (λ (k : ℕ). ltb k n) drawn (number ∷ [])

-- a piece more was counted
pub counts-more : (setup : Setup) (pieces : List (List ℕ)) (drawn : List ℕ) (number : ℕ) (first old new : TallySeen) → number < length pieces
    → TalliesDrawn setup pieces drawn first old → TakesIn setup (lines (get_or pieces number []) true) old new → TalliesDrawn setup pieces (drawn ++ number ∷ []) first new
counts-more setup pieces drawn number first old new within before more =
    let piece : Came = record { number = number; outcomes = more.outcomes } in
    let is_piece : ltb number (length pieces) ≡ true = grind (arith, nat_tests) in
    let behind : outcomes_in (before.came ++ piece ∷ []) ≡ outcomes_in before.came ++ more.outcomes =
    flat_map-append (λ (p : Came). p.outcomes) before.came (piece ∷ []) ∙ ap (λ (os : List Outcome). outcomes_in before.came ++ os) (append-nil more.outcomes) in
    record {
      came = before.came ++ piece ∷ [];
      numbers =
          map-append (λ (p : Came). p.number) before.came (piece ∷ []) ∙ ap (λ (ks : List ℕ). ks ++ number ∷ []) before.numbers
          ∙ ap (λ (b : Bool). of_pieces (length pieces) drawn ++ cond b (number ∷ []) []) (sym is_piece) ∙ sym (of_pieces-push (length pieces) number drawn);
      each = All-push (IsCame setup pieces) before.came piece before.each (record { have_outcomes = more.have_outcomes; countable = more.countable });
      tally = λ was is. subst (λ (os : List Outcome). IsTallyOf os new) (append_assoc was (outcomes_in before.came) more.outcomes ∙ ap (λ (os : List Outcome). was ++ os) (sym behind))
          (more.tally (was ++ outcomes_in before.came) (before.tally was is));
    }

-- a number was drawn that is no piece's
pub counts-past : (setup : Setup) (pieces : List (List ℕ)) (drawn : List ℕ) (number : ℕ) (first t : TallySeen) → length pieces ≤ number
    → TalliesDrawn setup pieces drawn first t → TalliesDrawn setup pieces (drawn ++ number ∷ []) first t
counts-past setup pieces drawn number first t past before =
    let is_none : ltb number (length pieces) ≡ false = grind (arith, nat_tests) in
    record {
      came = before.came;
      numbers =
          before.numbers ∙ sym (append-nil (of_pieces (length pieces) drawn))
          ∙ ap (λ (b : Bool). of_pieces (length pieces) drawn ++ cond b (number ∷ []) []) (sym is_none) ∙ sym (of_pieces-push (length pieces) number drawn);
      each = before.each;
      tally = before.tally;
    }

-- nothing was drawn
pub counts-none : (setup : Setup) (pieces : List (List ℕ)) (t : TallySeen) → TalliesDrawn setup pieces [] t t
counts-none setup pieces t = record {
  came = [];
  numbers = refl;
  each = All-nil (IsCame setup pieces);
  tally = λ was is. subst (λ (os : List Outcome). IsTallyOf os t) (sym (append-nil was)) is;
}

-- all that workers counted, after what they had
pub record CountsAll (setup : Setup) (pieces : List (List ℕ)) (drawn : List ℕ) (old new : List TallySeen) : Type 0 where
  pub came : List Came
  pub numbers : map (λ piece. piece.number) came ≡ of_pieces (length pieces) drawn
  pub each : All (IsCame setup pieces) came
  pub behind : (parts : List (List Outcome)) → AreTalliesOf parts old
      → (more : List (List Outcome)) × AreTalliesOf more new × AreAlike (together parts ++ outcomes_in came) (together more)

-- what one worker counted comes before what others had
alike-between : (p t f r : List Outcome) → AreAlike ((p ++ t) ++ (f ++ r)) ((p ++ f) ++ (t ++ r))
alike-between p t f r =
    let turned : AreAlike (t ++ (f ++ r)) (f ++ (t ++ r)) =
    alike-trans _ _ _ (alike-same _ _ (sym (append_assoc t f r))) (alike-trans _ _ _ (alike-append (t ++ f) (f ++ t) r r (alike-swap t f) (alike-refl r)) (alike-same _ _ (append_assoc f t r))) in
    alike-trans _ _ _ (alike-same _ _ (append_assoc p t (f ++ r)))
    (alike-trans _ _ _ (alike-append p p (t ++ (f ++ r)) (f ++ (t ++ r)) (alike-refl p) turned) (alike-same _ _ (sym (append_assoc p f (t ++ r)))))

pub together-cons : (part : List Outcome) (parts : List (List Outcome)) → together (part ∷ parts) ≡ part ++ together parts
together-cons part parts = flat_map-cons (λ (p : List Outcome). p) part parts

none-behind : (setup : Setup) (pieces : List (List ℕ)) (parts : List (List Outcome)) → AreTalliesOf parts []
    → (more : List (List Outcome)) × AreTalliesOf more [] × AreAlike (together parts ++ outcomes_in []) (together more)
none-behind setup pieces [] are = ([], tt, alike-refl [])
none-behind setup pieces (p ∷ parts) are = absurd are

pub all-counted : (setup : Setup) (pieces : List (List ℕ)) (drawn : List (List ℕ)) (old new : List TallySeen) → AllCount setup pieces drawn old new
    → CountsAll setup pieces (flat_map (λ d. d) drawn) old new
all-counted setup pieces [] [] [] all = record { came = []; numbers = refl; each = All-nil (IsCame setup pieces); behind = none-behind setup pieces }
all-counted setup pieces [] [] (n ∷ new) all = absurd all
all-counted setup pieces [] (o ∷ old) new all = absurd all
all-counted setup pieces (d ∷ drawn) [] new all = absurd all
all-counted setup pieces (d ∷ drawn) (o ∷ old) [] all = absurd all
all-counted setup pieces (d ∷ drawn) (o ∷ old) (n ∷ new) all =
    let rest = all-counted setup pieces drawn old new all.1 in
    let first = all.0.counts in
    record {
      came = first.came ++ rest.came;
      numbers =
          map-append (λ (p : Came). p.number) first.came rest.came ∙ (λ i. first.numbers i ++ rest.numbers i)
          ∙ sym (filter-append (λ (k : ℕ). ltb k (length pieces)) d (flat_map (λ (x : List ℕ). x) drawn))
          ∙ ap (of_pieces (length pieces)) (sym (flat_map-cons (λ (x : List ℕ). x) d drawn));
      each = All-append (IsCame setup pieces) first.came rest.came first.each rest.each;
      behind = some-behind first.came rest.came first.tally rest.behind;
    }
  where
    some-behind : (f r : List Came) → ((before : List Outcome) → IsTallyOf before o → IsTallyOf (before ++ outcomes_in f) n)
        → ((parts : List (List Outcome)) → AreTalliesOf parts old → (more : List (List Outcome)) × AreTalliesOf more new × AreAlike (together parts ++ outcomes_in r) (together more))
        → (parts : List (List Outcome)) → AreTalliesOf parts (o ∷ old)
        → (more : List (List Outcome)) × AreTalliesOf more (n ∷ new) × AreAlike (together parts ++ outcomes_in (f ++ r)) (together more)
    some-behind f r one others [] are = absurd are
    some-behind f r one others (p ∷ parts) are =
        let (more, are', alike) = others parts are.1 in
        let whole : together (p ∷ parts) ++ outcomes_in (f ++ r) ≡ (p ++ together parts) ++ (outcomes_in f ++ outcomes_in r) =
        λ i. together-cons p parts i ++ flat_map-append (λ (c : Came). c.outcomes) f r i in (
          (p ++ outcomes_in f) ∷ more,
          (one p are.0, are'),
          alike-trans _ _ _ (alike-same _ _ whole)
              (alike-trans _ _ _ (alike-between p (together parts) (outcomes_in f) (outcomes_in r))
              (alike-trans _ _ _ (alike-append (p ++ outcomes_in f) (p ++ outcomes_in f) (together parts ++ outcomes_in r) (together more) (alike-refl (p ++ outcomes_in f)) alike)
              (alike-same _ _ (sym (together-cons (p ++ outcomes_in f) more))))),
        )

-- what each of the workers counted by itself
record EachPart (came : List Came) (old new : List TallySeen) : Type 0 where
  parts : List (List Outcome)
  apart : CountOnApart parts old new
  whole : together parts ≡ outcomes_in came

each-part : (setup : Setup) (pieces : List (List ℕ)) (drawn : List (List ℕ)) (old new : List TallySeen) (all : AllCount setup pieces drawn old new)
    → EachPart (all-counted setup pieces drawn old new all).came old new
unfolding all-counted
each-part setup pieces [] [] [] all = record { parts = []; apart = tt; whole = refl }
each-part setup pieces [] [] (n ∷ new) all = absurd all
each-part setup pieces [] (o ∷ old) new all = absurd all
each-part setup pieces (d ∷ drawn) [] new all = absurd all
each-part setup pieces (d ∷ drawn) (o ∷ old) [] all = absurd all
each-part setup pieces (d ∷ drawn) (o ∷ old) (n ∷ new) all =
    let rest = each-part setup pieces drawn old new all.1 in
    let first = all.0.counts in
    let others = (all-counted setup pieces drawn old new all.1).came in
    record {
      parts = outcomes_in first.came ∷ rest.parts;
      apart = (first.tally, rest.apart);
      whole = together-cons (outcomes_in first.came) rest.parts
          ∙ ap (λ (l : List Outcome). outcomes_in first.came ++ l) rest.whole
          ∙ sym (flat_map-append (λ (c : Came). c.outcomes) first.came others);
    }

-- how often a number is in lists
times-cons : (k x : ℕ) (xs : List ℕ) → times k (x ∷ xs) ≡ cond (eqb x k) 1 0 + times k xs
times-cons k x xs = sum_by-cons (λ (n : ℕ). cond (eqb n k) 1 0) x xs

times-append : (k : ℕ) (xs ys : List ℕ) → times k (xs ++ ys) ≡ times k xs + times k ys
times-append k xs ys = sum_by-append (λ (n : ℕ). cond (eqb n k) 1 0) xs ys

-- a number, one more or one less, as tests have it
one-of_pieces : (x k n m q : ℕ) (b d e : Bool) → ltb x n ≡ b → ltb k n ≡ d → eqb x k ≡ e → q ≡ cond d m 0 → cond b (cond e 1 0 + q) q ≡ cond d (cond e 1 0 + m) 0
one-of_pieces x k n m q true true e p r s is = ap (λ (z : ℕ). cond e 1 0 + z) is
one-of_pieces x k n m q true false true p r s is = absurd (grind (arith, nat_tests))
one-of_pieces x k n m q true false false p r s is = omega (arith, is)
one-of_pieces x k n m q false true true p r s is = absurd (grind (arith, nat_tests))
one-of_pieces x k n m q false true false p r s is = omega (arith, is)
one-of_pieces x k n m q false false e p r s is = is

times-cond : (k x : ℕ) (b : Bool) (xs : List ℕ) → times k (cond b (x ∷ xs) xs) ≡ cond b (cond (eqb x k) 1 0 + times k xs) (times k xs)
times-cond k x true xs = times-cons k x xs
times-cond k x false xs = refl

-- a number that is in the list stands among those of pieces where it is one's
times-of_pieces : (n k : ℕ) (xs : List ℕ) → times k (of_pieces n xs) ≡ cond (ltb k n) (times k xs) 0
times-of_pieces n k [] = by (ltb k n)
  where
    by : (b : Bool) → ◌≡◌ {A = ℕ} 0 (cond b 0 0)
    by true = refl
    by false = refl
times-of_pieces n k (x ∷ xs) =
    times-cond k x (ltb x n) (of_pieces n xs)
    ∙ one-of_pieces x k n (times k xs) (times k (of_pieces n xs)) (ltb x n) (ltb k n) (eqb x k) refl refl refl (times-of_pieces n k xs)
    ∙ ap (λ (m : ℕ). cond (ltb k n) m 0) (sym (times-cons k x xs))

here-once : (a b : ℕ) → a ≡ b → ◌≡◌ {A = ℕ} (cond (eqb a b) 1 0) 1
here-once a b e = grind (arith, nat_tests)

pub contains-times : (k : ℕ) (xs : List ℕ) (i : ℕ) → i < length xs → get_or xs i k ≡ k → 1 ≤ times k xs
contains-times k [] i within is = absurd (omega arith)
contains-times k (x ∷ xs) zero within is = omega (arith, times-cons k x xs, here-once x k is)
contains-times k (x ∷ xs) (suc i) within is = omega (arith, times-cons k x xs, contains-times k xs i (omega arith) is)

once-some : (n k : ℕ) → 1 ≤ once_below n k → k < n
once-some n k some = grind (arith, nat_tests)

-- where a worker is done, more numbers were drawn than there are pieces
done-many : (n : ℕ) (xs : List ℕ) (drawn : List (List ℕ)) → AreAllBelow (flat_map (λ d. d) (xs ∷ drawn)) → IsDone n xs → n < length (flat_map (λ d. d) (xs ∷ drawn))
done-many n xs drawn all (inl many) =
    let whole = flat_map-cons (λ (d : List ℕ). d) xs drawn in
    omega (arith, many, ap length whole, length-append xs (flat_map (λ (d : List ℕ). d) drawn))
done-many n xs drawn all (inr (number, past, (i, within, is))) =
    let rest = flat_map (λ (d : List ℕ). d) drawn in
    let whole = flat_map-cons (λ (d : List ℕ). d) xs drawn in
    let one = contains-times number xs i within is in
    let here : 1 ≤ times number (flat_map (λ (d : List ℕ). d) (xs ∷ drawn)) = omega (arith, one, times-append number xs rest, ap (times number) whole) in
    let below = once-some (length (flat_map (λ (d : List ℕ). d) (xs ∷ drawn))) number (subst (λ (m : ℕ). 1 ≤ m) (all number) here) in
    omega (arith, past, below)

-- the piece of a number that was drawn
record Split (number : ℕ) (came : List Came) : Type 0 where
  front : List Came
  piece : Came
  back : List Came
  is : came ≡ front ++ piece ∷ back
  number_is : piece.number ≡ number

split-more : (number : ℕ) (x : Came) (came : List Came) → 0 < times number (map (λ (piece : Came). piece.number) (x ∷ came)) → (b : Bool) → eqb x.number number ≡ b
    → (0 < times number (map (λ (piece : Came). piece.number) came) → Split number came) → Split number (x ∷ came)
split-more number x came some true e rest = record { front = []; piece = x; back = came; is = refl; number_is = eqb-true x.number number e }
split-more number x came some false e rest =
    let none : ◌≡◌ {A = ℕ} (cond (eqb x.number number) 1 0) 0 = ap (λ (b : Bool). cond b 1 0) e in
    let s = rest (omega (arith, some, none, times-cons number x.number (map (λ (piece : Came). piece.number) came))) in
    record { front = x ∷ s.front; piece = s.piece; back = s.back; is = ap (λ (l : List Came). x ∷ l) s.is; number_is = s.number_is }

split-at : (number : ℕ) (came : List Came) → 0 < times number (map (λ (piece : Came). piece.number) came) → Split number came
split-at number [] some = absurd (omega arith)
split-at number (x ∷ came) some = split-more number x came some (eqb x.number number) refl (split-at number came)

-- the pieces below a number, in their order
pub record Ordered (setup : Setup) (pieces : List (List ℕ)) (came : List Came) (n : ℕ) : Type 0 where
  pub outcomes : List Outcome
  pub have_outcomes : HaveOutcomes setup (all_lines (take n pieces)) outcomes
  pub countable : AllCountable outcomes
  pub alike : AreAlike outcomes (outcomes_in came)

once-less : (n k m : ℕ) → cond (eqb n k) 1 0 + m ≡ once_below (suc n) k → m ≡ once_below n k
once-less n k m e = grind (arith, nat_tests)

once-here : (n : ℕ) → once_below (suc n) n ≡ 1
once-here n = grind (arith, nat_tests)

no-pieces : (setup : Setup) (pieces : List (List ℕ)) → HaveOutcomes setup (all_lines (take 0 pieces)) []
no-pieces setup [] = refl
no-pieces setup (p ∷ pieces) = refl

none-below : (k : ℕ) → once_below 0 k ≡ 0
none-below k = grind (arith, nat_tests)

once-front : (n m k : ℕ) → n < m → cond (ltb k n) (once_below m k) 0 ≡ once_below n k
once-front n m k more = grind (arith, nat_tests)

-- the others without the piece of a number
pub all-mid : {X : Type 0} (P : X → Type 0) (front back : List X) (y : X) → All P (front ++ y ∷ back) → P y × All P (front ++ back)
all-mid P [] back y all = (All-head P y back all, All-tail P y back all)
all-mid P (x ∷ front) back y all =
    let rest = all-mid P front back y (All-tail P x (front ++ y ∷ back) all) in
    (rest.0, All-cons P x (front ++ back) (All-head P x (front ++ y ∷ back) all) rest.1)

times-mid : (k : ℕ) (front back : List Came) (piece : Came) → times k (map (λ (p : Came). p.number) (front ++ piece ∷ back))
    ≡ cond (eqb piece.number k) 1 0 + times k (map (λ (p : Came). p.number) (front ++ back))
times-mid k [] back piece = times-cons k piece.number (map (λ (p : Came). p.number) back)
times-mid k (x ∷ front) back piece =
    omega (arith, times-mid k front back piece, times-cons k x.number (map (λ (p : Came). p.number) (front ++ piece ∷ back)), times-cons k x.number (map (λ (p : Came). p.number) (front ++ back)))

lines-more : (pieces : List (List ℕ)) (n : ℕ) → n < length pieces → all_lines (take (n + 1) pieces) ≡ all_lines (take n pieces) ++ lines (get_or pieces n []) true
lines-more pieces n within =
    let f : List ℕ → List (List ℕ) = λ (p : List ℕ). lines p true in
    ap all_lines (take_more pieces n [] within) ∙ flat_map-append f (take n pieces) (get_or pieces n [] ∷ [])
    ∙ ap (λ (ls : List (List ℕ)). all_lines (take n pieces) ++ ls) (append-nil (lines (get_or pieces n []) true))

-- a piece put in its place is counted as it was where it was drawn
alike-mid : (os : List Outcome) (front back : List Came) (piece : Came) → AreAlike os (outcomes_in (front ++ back)) → AreAlike (os ++ piece.outcomes) (outcomes_in (front ++ piece ∷ back))
alike-mid os front back piece alike =
    let f : Came → List Outcome = λ (p : Came). p.outcomes in
    let a = outcomes_in front in
    let b = outcomes_in back in
    let p = piece.outcomes in
    let parted : outcomes_in (front ++ back) ++ p ≡ a ++ (b ++ p) = ap (λ (l : List Outcome). l ++ p) (flat_map-append f front back) ∙ append_assoc a b p in
    let joined : a ++ (p ++ b) ≡ outcomes_in (front ++ piece ∷ back) = sym (flat_map-append f front (piece ∷ back) ∙ ap (λ (l : List Outcome). a ++ l) (flat_map-cons f piece back)) in
    alike-trans _ _ _ (alike-append os (outcomes_in (front ++ back)) p p alike (alike-refl p))
    (alike-trans _ _ _ (alike-same _ _ parted)
    (alike-trans _ _ _ (alike-append a a (b ++ p) (p ++ b) (alike-refl a) (alike-swap b p)) (alike-same _ _ joined)))

with-piece : (setup : Setup) (pieces : List (List ℕ)) (n : ℕ) (front back : List Came) (piece : Came) → n < length pieces → piece.number ≡ n → IsCame setup pieces piece
    → Ordered setup pieces (front ++ back) n → Ordered setup pieces (front ++ piece ∷ back) (n + 1)
with-piece setup pieces n front back piece within here is before =
    let have_outcomes : HaveOutcomes setup (lines (get_or pieces n []) true) piece.outcomes = subst (λ (k : ℕ). HaveOutcomes setup (lines (get_or pieces k []) true) piece.outcomes) here is.have_outcomes in
    record {
      outcomes = before.outcomes ++ piece.outcomes;
      have_outcomes =
          subst (λ (ls : List (List ℕ)). HaveOutcomes setup ls (before.outcomes ++ piece.outcomes)) (sym (lines-more pieces n within))
          (have_outcomes-append setup (all_lines (take n pieces)) (lines (get_or pieces n []) true) before.outcomes piece.outcomes before.have_outcomes have_outcomes);
      countable = countable-append before.outcomes piece.outcomes before.countable is.countable;
      alike = alike-mid before.outcomes front back piece before.alike;
    }

ordered : (setup : Setup) (pieces : List (List ℕ)) (n : ℕ) (came : List Came) → n ≤ length pieces → All (IsCame setup pieces) came
    → ((k : ℕ) → times k (map (λ (piece : Came). piece.number) came) ≡ once_below n k) → Ordered setup pieces came n
ordered setup pieces zero [] within each once = record { outcomes = []; have_outcomes = no-pieces setup pieces; countable = All-nil _; alike = alike-refl [] }
ordered setup pieces zero (x ∷ came) within each once =
    absurd (omega (arith, here-once x.number x.number refl, once x.number, none-below x.number, times-cons x.number x.number (map (λ (piece : Came). piece.number) came)))
ordered setup pieces (suc n) came within each once =
    let s = split-at n came (omega (arith, once n, once-here n)) in
    let parts = all-mid (IsCame setup pieces) s.front s.back s.piece (subst (All (IsCame setup pieces)) s.is each) in
    let others : (k : ℕ) → times k (map (λ (p : Came). p.number) (s.front ++ s.back)) ≡ once_below n k =
    λ k. once-less n k _ (ap (λ (m : ℕ). cond (eqb m k) 1 0 + times k (map (λ (p : Came). p.number) (s.front ++ s.back))) (sym s.number_is)
    ∙ sym (times-mid k s.front s.back s.piece) ∙ ap (λ (l : List Came). times k (map (λ (p : Came). p.number) l)) (sym s.is) ∙ once k) in
    let before = ordered setup pieces n (s.front ++ s.back) (omega (arith, within)) parts.1 others in
    let after = with-piece setup pieces n s.front s.back s.piece (omega (arith, within)) s.number_is parts.0 before in
    subst (λ (l : List Came). Ordered setup pieces l (suc n)) (sym s.is) (subst (λ (m : ℕ). Ordered setup pieces (s.front ++ s.piece ∷ s.back) m) (omega arith) after)

as-many : (setup : Setup) (pieces : List (List ℕ)) (drawn : List (List ℕ)) (old new : List TallySeen) → AllCount setup pieces drawn old new → length new ≡ length old
as-many setup pieces [] [] [] all = refl
as-many setup pieces [] [] (n ∷ new) all = absurd all
as-many setup pieces [] (o ∷ old) new all = absurd all
as-many setup pieces (d ∷ drawn) [] new all = absurd all
as-many setup pieces (d ∷ drawn) (o ∷ old) [] all = absurd all
as-many setup pieces (d ∷ drawn) (o ∷ old) (n ∷ new) all = ap suc (as-many setup pieces drawn old new all.1)

some-done : (setup : Setup) (pieces : List (List ℕ)) (drawn : List (List ℕ)) (old new : List TallySeen) → 0 < length drawn → AllCount setup pieces drawn old new
    → AreAllBelow (flat_map (λ d. d) drawn) → length pieces < length (flat_map (λ d. d) drawn)
some-done setup pieces [] old new some all below = absurd (omega arith)
some-done setup pieces (d ∷ drawn) [] new some all below = absurd all
some-done setup pieces (d ∷ drawn) (o ∷ old) [] some all below = absurd all
some-done setup pieces (d ∷ drawn) (o ∷ old) (n ∷ new) some all below = done-many (length pieces) d drawn below all.0.done

-- the tallies of all workers, once each is done, count the lines of all pieces
pub tallies-of-lines : (setup : Setup) (pieces : List (List ℕ)) (drawn : List (List ℕ)) (old new : List TallySeen) → 0 < length drawn → AllCount setup pieces drawn old new
    → AreAllBelow (flat_map (λ d. d) drawn) → CountsOn setup (all_lines pieces) old new
tallies-of-lines setup pieces drawn old new some all below =
    let n = length pieces in
    let whole = flat_map (λ (x : List ℕ). x) drawn in
    let counted = all-counted setup pieces drawn old new all in
    let many = some-done setup pieces drawn old new some all below in
    let each : (k : ℕ) → times k (map (λ (piece : Came). piece.number) counted.came) ≡ once_below n k =
    λ k. ap (times k) counted.numbers ∙ times-of_pieces n k whole ∙ ap (λ (m : ℕ). cond (ltb k n) m 0) (below k) ∙ once-front n (length whole) k many in
    let row = ordered setup pieces n counted.came (omega arith) counted.each each in
    record {
      many = as-many setup pieces drawn old new all;
      outcomes = row.outcomes;
      have_outcomes = subst (λ (l : List (List ℕ)). HaveOutcomes setup (all_lines l) row.outcomes) (take_all n pieces (omega arith)) row.have_outcomes;
      countable = row.countable;
      counted = λ before are.
          let (more, are', alike) = counted.behind are.parts are.tallies_of in
          record {
            parts = more;
            tallies_of = are';
            alike = alike-trans _ _ _ (alike-append before (together are.parts) row.outcomes (outcomes_in counted.came) are.alike row.alike) alike;
          };
      by_each =
          let apart = each-part setup pieces drawn old new all in
          record { parts = apart.parts; apart = apart.apart; alike = alike-trans _ _ _ row.alike (alike-same _ _ (sym apart.whole)) };
    }
