-- Outcomes that may be counted have a sum, and the tables represent it.
use Rattle.std.proofs.Common.{◌≡◌, ℕ, nat_lt, List, [], ◌∷◌, sym, ◌∙◌, subst}
use Rattle.std.proofs.lemmas.List.Elements.{All-head, All-tail}
use Rattle.ga_base.specs.declared.counts.Totals.{Totals}
use Rattle.ga_pool.specs.CountedBatch.{CountsBatch, StandsForSum}
use Rattle.ga_pool.specs.Stands.{Stands, said_by, said_of}
use Rattle.ga_workers.specs.Together.{AreAlike, AreCounted}
use Rattle.ga_pool.specs.declared.counted.Counted.{Counted as TheCounted}
use Rattle.ga_workers.proofs.WeighedLines.{over-none}
use Rattle.ga_summary.specs.OneLine.{line_value}
use Rattle.ga_summary.specs.Outcomes.{Counted, Excluded, Failed, Hit, Outcome, hits_of, totals_of}
use Rattle.ga_summary.specs.SummaryRows.{SummaryValue}
use Rattle.ga_base.specs.Totals.{totals_plus, TotalsFit}
use Rattle.ga_summary.specs.Sound.{AllCountable, IsCountable}
use Rattle.ga_summary.specs.Steps.Joined.{merged_value}
use Rattle.ga_summary.specs.Sums.{IsSumOf}
use Rattle.ga_summary.proofs.Appends.{IsSumOf-append}
use Rattle.ga_summary.proofs.Lines.{IsSumOf-lines}
use Rattle.ga_summary.proofs.OneLine.{IsSumOf-line}
use Rattle.ga_summary.proofs.Soundness.{IsMerged-merged_value}
use Rattle.ga_summary.proofs.SoundSums.{IsSound-sum}
use Rattle.ga_tallies.specs.Tallies.{AreTalliesOf, TallySeen, together}
use Rattle.ga_outcomes.specs.LineOutcomes.{HaveOutcomes}
use Rattle.ga_outcomes.specs.declared.setup.Setup.{Setup}

-- the sum of one outcome and of those after it
sum-cons : (o : Outcome) (os : List Outcome) (a b : SummaryValue) → IsSumOf (o ∷ []) a → IsSumOf os b → (s : SummaryValue) × IsSumOf (o ∷ os) s
sum-cons o os a b x y = (merged_value a b, IsSumOf-append (o ∷ []) os a b (merged_value a b) x y (IsMerged-merged_value a b x.ordered y.ordered))

pub sum-exists : (os : List Outcome) → AllCountable os → (s : SummaryValue) × IsSumOf os s
sum-exists [] can = (_, IsSumOf-lines 0 0)
sum-exists (Failed ∷ os) can = let (b, y) = sum-exists os can in sum-cons Failed os _ b (IsSumOf-lines 1 0) y
sum-exists (Excluded ∷ os) can = let (b, y) = sum-exists os can in sum-cons Excluded os _ b (IsSumOf-lines 0 1) y
sum-exists (Counted hit ∷ os) can =
    let (date, one) = All-head (λ (h : Hit). (date : ℕ) × IsCountable date h) hit (hits_of os) can in
    let (b, y) = sum-exists os (All-tail (λ (h : Hit). (date : ℕ) × IsCountable date h) hit (hits_of os) can) in
    sum-cons (Counted hit) os (line_value hit) b (IsSumOf-line hit date one) y

-- what is said by the sum is what is said of the outcomes
said-same : (os : List Outcome) (s : SummaryValue) → IsSumOf os s → said_by s ≡ said_of os
said-same os s is = λ i. record { totals = is.totals i; has = λ key. is.present key i; sums = λ key. is.sums key i; visits = λ key visitor. is.pairs key visitor i }

said-alike : (xs ys : List Outcome) → AreAlike xs ys → said_of xs ≡ said_of ys
said-alike xs ys a = λ i. record { totals = a.totals i; has = λ key. nat_lt 0 (a.sums key i).hits; sums = λ key. a.sums key i; visits = λ key visitor. a.visits key visitor i }

-- the tables represent the sum of what tallies have counted
pub stands-for-sum : (os : List Outcome) (ts : List TallySeen) (counted : TheCounted) → TotalsFit (totals_of os) → ((parts : List (List Outcome)) → AreTalliesOf parts ts → Stands counted (said_of (together parts)))
    → AreCounted os ts → AllCountable os → StandsForSum os counted
stands-for-sum os ts counted fit stands are can =
    let (s, is) = sum-exists os can in
    record {
      sum = s;
      is_sum = is;
      summary = record { ordered = is.ordered; sound = IsSound-sum os s can fit is };
      stands = subst (Stands counted) (sym (said-same os s is ∙ said-alike os (together are.parts) are.alike)) (stands are.parts are.tallies_of);
    }

-- a batch whose lines were counted by workers, and whose counters fit
pub counts-batch : (setup : Setup) (before : Totals) (lines : List (List ℕ)) (outcomes : List Outcome) (counted : TheCounted) → HaveOutcomes setup lines outcomes → AllCountable outcomes
    → TotalsFit (totals_plus before (totals_of outcomes)) → StandsForSum outcomes counted → CountsBatch setup before lines counted
counts-batch setup before lines outcomes counted have_outcomes can fit stands = record {
  outcomes = outcomes;
  have_outcomes = have_outcomes;
  countable = can;
  fits = over-none before outcomes fit;
  sum = stands.sum;
  is_sum = stands.is_sum;
  summary = stands.summary;
  stands = stands.stands;
}
