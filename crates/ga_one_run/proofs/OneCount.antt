-- Each line of a log has one outcome, so that a log has one sum, or fills one counter with one value.
use Rattle.std.proofs.Common.{◌≡◌, ◌⊎◌, ℕ, List, [], ◌∷◌, ◌++◌, inl, inr, refl, ap, sym, ◌∙◌, subst, Option, Some, None, append_assoc}
use Rattle.ga_base.specs.declared.counts.Counter.{Counter}
use Rattle.ga_base.specs.declared.counts.Totals.{Totals}
use Rattle.ga_base.specs.declared.record.Line.{Line}
use Rattle.ga_base.specs.declared.record.Line.TheVariants.{Skipped, Failed, Good}
use Rattle.ga_base.specs.declared.key.Key.{Key}
use Rattle.ga_base.specs.declared.record.Record.{Record}
use Rattle.ga_line.specs.Records.{SaysOneThing}
use Rattle.ga_panels.specs.Table.{AreKeysOf}
use Rattle.ga_panels.specs.Visitors.{visitor_in}
use Rattle.ga_panels.specs.declared.setup.PanelSetup.{PanelSetup}
use Rattle.ga_outcomes.specs.declared.setup.Setup.{Setup}
use Rattle.ga_summary.specs.Limits.{over, passes, or_else}
use Rattle.ga_summary.specs.Outcomes.{Outcome, Counted, hit_of, totals_of}
use Rattle.ga_summary.specs.SummaryRows.{SummaryValue}
use Rattle.ga_base.specs.Totals.{totals_plus}
use Rattle.ga_summary.specs.Sums.{IsSumOf}
use Rattle.ga_outcomes.specs.LineOutcomes.{IsOutcomeOf, HasOutcome, HaveOutcomes, listed, CountsLines, FillsAmong}

none-some : {p : Counter × ℕ} → None ≡ Some p → ⊥
none-some e = cc

some-same : {p q : Counter × ℕ} → Some p ≡ Some q → p ≡ q
some-same e = cc

heads : {x y : List ℕ} {xs ys : List (List ℕ)} → x ∷ xs ≡ y ∷ ys → x ≡ y
heads e = cc

tails : {x y : List ℕ} {xs ys : List (List ℕ)} → x ∷ xs ≡ y ∷ ys → xs ≡ ys
tails e = cc

-- the first of two stays where the second only finds more
later : (first second more : Option (Counter × ℕ)) (p : Counter × ℕ) → (second ≡ Some p → more ≡ Some p) → or_else first second ≡ Some p → or_else first more ≡ Some p
later None second more p h e = h e
later (Some q) second more p h e = e

-- what passes a limit along outcomes stands along more of them
over-longer : (t : Totals) (os ps : List Outcome) (p : Counter × ℕ) → over t os ≡ Some p → over t (os ++ ps) ≡ Some p
over-longer t [] ps p e = absurd (none-some e)
over-longer t (o ∷ os) ps p e =
    let more : Totals = totals_plus t (totals_of (o ∷ [])) in
    later (passes more) (over more os) (over more (os ++ ps)) p (over-longer more os ps p) e

-- what the law of keys says
abbrev OneListOfKeys : Type 0
OneListOfKeys = (setup : PanelSetup) (rec : Record) (one two : List Key) → AreKeysOf setup rec one → AreKeysOf setup rec two → one ≡ two

-- what a line says has one outcome
one-said : OneListOfKeys → (panels : PanelSetup) (said : Line) (a b : Option Outcome) → IsOutcomeOf panels said a → IsOutcomeOf panels said b → a ≡ b
one-said keys panels Skipped a b h k = h ∙ sym k
one-said keys panels Failed a b h k = h ∙ sym k
one-said keys panels (Good rec) a b (inl h) (inl k) = h.1 ∙ sym k.1
one-said keys panels (Good rec) a b (inl h) (inr k) = absurd (k.0 h.0)
one-said keys panels (Good rec) a b (inr h) (inl k) = absurd (h.0 k.0)
one-said keys panels (Good rec) a b (inr (here, (one, is, same))) (inr (there, (two, is', same'))) =
    same ∙ ap (λ (ks : List Key). Some (Counted (hit_of ks (visitor_in panels rec) rec))) (keys panels rec one two is is') ∙ sym same'

-- a line has one outcome
pub one-outcome : OneListOfKeys → (setup : Setup) → ((line : List ℕ) → SaysOneThing setup.line line) → (line : List ℕ) (a b : Option Outcome) → HasOutcome setup line a → HasOutcome setup line b → a ≡ b
one-outcome keys setup one line a b (said, says, is) (said', says', is') =
    one-said keys setup.panels said a b is (subst (λ (s : Line). IsOutcomeOf setup.panels s b) (one line said' said says' says) is')

-- what a front of the lines fills, all of them fill
pub fills-longer : (setup : Setup) (start : Totals) (front more : List (List ℕ)) (which : Counter) (total : ℕ) → FillsAmong setup start front which total
    → FillsAmong setup start (front ++ more) which total
fills-longer setup start front more which total h = record {
  front = h.front;
  back = h.back ++ more;
  split = ap (λ (ls : List (List ℕ)). ls ++ more) h.split ∙ append_assoc h.front h.back more;
  outcomes = h.outcomes;
  have_outcomes = h.have_outcomes;
  full = h.full;
}

-- of two fronts of one list one is a front of the other
pub fronts : (ls ms rest more : List (List ℕ)) → ls ++ rest ≡ ms ++ more → ((x : List (List ℕ)) × (ms ≡ ls ++ x)) ⊎ ((x : List (List ℕ)) × (ls ≡ ms ++ x))
fronts [] ms rest more same = inl (ms, refl)
fronts (l ∷ ls) [] rest more same = inr (l ∷ ls, refl)
fronts (l ∷ ls) (m ∷ ms) rest more same = longer (fronts ls ms rest more (tails same))
  where
    longer : ((x : List (List ℕ)) × (ms ≡ ls ++ x)) ⊎ ((x : List (List ℕ)) × (ls ≡ ms ++ x))
        → ((x : List (List ℕ)) × (m ∷ ms ≡ l ∷ (ls ++ x))) ⊎ ((x : List (List ℕ)) × (l ∷ ls ≡ m ∷ (ms ++ x)))
    longer (inl (x, is)) = inl (x, let head : l ≡ m = heads same in cc)
    longer (inr (x, is)) = inr (x, let head : l ≡ m = heads same in cc)

module _ (setup : Setup) (one : (line : List ℕ) (a b : Option Outcome) → HasOutcome setup line a → HasOutcome setup line b → a ≡ b) where
  pub one-list : (ls : List (List ℕ)) (a b : List Outcome) → HaveOutcomes setup ls a → HaveOutcomes setup ls b → a ≡ b
  one-list [] a b h k = h ∙ sym k
  one-list (l ∷ ls) a b (first, rest, comes, later, is) (first', rest', comes', later', is') =
      is ∙ ap (λ (o : Option Outcome). listed o rest) (one l first first' comes comes') ∙ ap (listed first') (one-list ls rest rest' later later') ∙ sym is'

  listed-append : (first : Option Outcome) (rest ps : List Outcome) → listed first rest ++ ps ≡ listed first (rest ++ ps)
  listed-append None rest ps = refl
  listed-append (Some o) rest ps = refl

  -- the outcomes of a front are a front of the outcomes
  front-of : (ls rest : List (List ℕ)) (a b : List Outcome) → HaveOutcomes setup ls a → HaveOutcomes setup (ls ++ rest) b → (more : List Outcome) × (b ≡ a ++ more)
  front-of [] rest a b h k = (b, ap (λ (o : List Outcome). o ++ b) (sym h))
  front-of (l ∷ ls) rest a b (first, os, comes, later, is) (first', os', comes', later', is') =
      let (more, tail) = front-of ls rest os os' later later' in
      let head : first' ≡ first = one l first' first comes' comes in
      (more, is' ∙ ap (λ (o : Option Outcome). listed o os') head ∙ ap (listed first) tail ∙ sym (listed-append first os more) ∙ ap (λ (o : List Outcome). o ++ more) (sym is))

  -- of two fronts of the same lines one is a front of the other
  one-full : (t : Totals) (ls ms rest more : List (List ℕ)) (a b : List Outcome) (p q : Counter × ℕ) → ls ++ rest ≡ ms ++ more → HaveOutcomes setup ls a → HaveOutcomes setup ms b
      → over t a ≡ Some p → over t b ≡ Some q → p ≡ q
  one-full t ls ms rest more a b p q same h k e f = go (fronts ls ms rest more same)
    where
      go : ((x : List (List ℕ)) × (ms ≡ ls ++ x)) ⊎ ((x : List (List ℕ)) × (ls ≡ ms ++ x)) → p ≡ q
      go (inl (x, is)) =
          let (os, whole) = front-of ls x a b h (subst (λ (m : List (List ℕ)). HaveOutcomes setup m b) is k) in
          some-same (sym (over-longer t a os p e) ∙ ap (over t) (sym whole) ∙ f)
      go (inr (x, is)) =
          let (os, whole) = front-of ms x b a k (subst (λ (m : List (List ℕ)). HaveOutcomes setup m a) is h) in
          some-same (sym e ∙ ap (over t) whole ∙ over-longer t b os q f)

  module _ (start : Totals) (all : List (List ℕ)) where
    pub one-counter : (which which' : Counter) (total total' : ℕ) → FillsAmong setup start all which total → FillsAmong setup start all which' total' → (which ≡ which') × (total ≡ total')
    one-counter which which' total total' h k =
        let same = one-full start h.front k.front h.back k.back h.outcomes k.outcomes (which, total) (which', total') (sym h.split ∙ k.split) h.have_outcomes k.have_outcomes h.full k.full in
        (ap (λ (p : Counter × ℕ). p.0) same, ap (λ (p : Counter × ℕ). p.1) same)

    -- where all lines pass no limit, no front of them does
    pub not-both : (sum : SummaryValue) (which : Counter) (total : ℕ) → CountsLines setup start all sum → FillsAmong setup start all which total → ⊥
    not-both sum which total h k =
        let (more, whole) = front-of k.front k.back k.outcomes h.outcomes k.have_outcomes (subst (λ (ls : List (List ℕ)). HaveOutcomes setup ls h.outcomes) k.split h.have_outcomes) in
        none-some (sym h.fits ∙ ap (over start) whole ∙ over-longer start k.outcomes more (which, total) k.full)

    pub one-count : ((outcomes : List Outcome) (a b : SummaryValue) → IsSumOf outcomes a → IsSumOf outcomes b → a ≡ b) → (a b : SummaryValue) → CountsLines setup start all a
        → CountsLines setup start all b → a ≡ b
    one-count one_sum a b h k =
        one_sum h.outcomes a b h.is_sum (subst (λ (os : List Outcome). IsSumOf os b) (one-list all k.outcomes h.outcomes k.have_outcomes h.have_outcomes) k.is_sum)
