-- The sum of outcomes that may be counted is sound.
use Rattle.std.proofs.Common.{ℕ, List, [], ◌∷◌, sym, ap, ◌∙◌, subst, arith}
use Rattle.std.specs.List.{AllByRecursion}
use Rattle.std.proofs.lemmas.List.Elements.{recursion_from_All}
use Rattle.ga_base.specs.declared.counts.Totals.{Totals}
use Rattle.ga_summary.specs.Outcomes.{Outcome, Failed, Excluded, Counted, hits_of, totals_of}
use Rattle.ga_summary.specs.SummaryRows.{SummaryValue}
use Rattle.ga_base.specs.Totals.{totals_plus, TotalsFit}
use Rattle.ga_summary.specs.OneLine.{line_value}
use Rattle.ga_summary.specs.Steps.Joined.{merged_value}
use Rattle.ga_summary.specs.Sums.{IsSumOf}
use Rattle.ga_summary.specs.Sound.{IsSound, IsSummary, IsCountable, AllCountable}
use Rattle.ga_summary.proofs.Appends.{IsSumOf-append, totals_of-append}
use Rattle.ga_summary.proofs.Lines.{lines_value, IsSumOf-lines, IsSummary-lines}
use Rattle.ga_summary.proofs.OneLine.{IsSumOf-line, IsSummary-line}
use Rattle.ga_summary.proofs.Soundness.{IsMerged-merged_value, IsSound-merged_value}
use Rattle.ga_summary.proofs.Merging.{IsInOrder-put_rows}
use Rattle.ga_summary.proofs.Unique.{one_sum}

-- a sound summary that is the sum of the outcomes
record HasSum (outcomes : List Outcome) : Type 0 where
  value : SummaryValue
  sum : IsSumOf outcomes value
  sound : IsSummary value

-- one more in front
more : (outcome : Outcome) (outcomes : List Outcome) → HasSum (outcome ∷ []) → HasSum outcomes → TotalsFit (totals_of (outcome ∷ outcomes)) → HasSum (outcome ∷ outcomes)
more outcome outcomes one rest fit = record {
  value = merged_value one.value rest.value;
  sum = IsSumOf-append (outcome ∷ []) outcomes one.value rest.value (merged_value one.value rest.value) one.sum rest.sum (IsMerged-merged_value one.value rest.value one.sound.ordered rest.sound.ordered);
  sound = record {
    ordered = IsInOrder-put_rows one.value.rows rest.value.rows one.sound.ordered rest.sound.ordered;
    sound = IsSound-merged_value one.value rest.value one.sound.ordered rest.sound.ordered one.sound.sound rest.sound.sound
        (subst TotalsFit (totals_of-append (outcome ∷ []) outcomes ∙ λ i. totals_plus (sym one.sum.totals i) (sym rest.sum.totals i)) fit);
  };
}

fit_rest : (outcome : Outcome) (outcomes : List Outcome) → TotalsFit (totals_of (outcome ∷ outcomes)) → TotalsFit (totals_of outcomes)
fit_rest outcome outcomes fit =
    let both = totals_of-append (outcome ∷ []) outcomes in
    record {
      lines = omega (arith, fit.lines, ap (λ (t : Totals). t.lines) both);
      bytes = omega (arith, fit.bytes, ap (λ (t : Totals). t.bytes) both);
      micros = omega (arith, fit.micros, ap (λ (t : Totals). t.micros) both);
    }

has_sum : (outcomes : List Outcome) → AllByRecursion (λ hit. (date : ℕ) × IsCountable date hit) (hits_of outcomes) → TotalsFit (totals_of outcomes) → HasSum outcomes
has_sum [] can fit = record { value = lines_value 0 0; sum = IsSumOf-lines 0 0; sound = IsSummary-lines 0 0 (omega arith) }
has_sum (Failed ∷ outcomes) can fit =
    more Failed outcomes (record { value = lines_value 1 0; sum = IsSumOf-lines 1 0; sound = IsSummary-lines 1 0 (omega arith) }) (has_sum outcomes can (fit_rest Failed outcomes fit)) fit
has_sum (Excluded ∷ outcomes) can fit =
    more Excluded outcomes (record { value = lines_value 0 1; sum = IsSumOf-lines 0 1; sound = IsSummary-lines 0 1 (omega arith) }) (has_sum outcomes can (fit_rest Excluded outcomes fit)) fit
has_sum (Counted hit ∷ outcomes) can fit =
    more (Counted hit) outcomes (record { value = line_value hit; sum = IsSumOf-line hit can.0.0 can.0.1; sound = IsSummary-line hit can.0.0 can.0.1 }) (has_sum outcomes can.1 (fit_rest (Counted hit) outcomes fit)) fit

-- each sum of outcomes that may be counted is sound, where the totals fit
pub IsSound-sum : (outcomes : List Outcome) (s : SummaryValue) → AllCountable outcomes → TotalsFit (totals_of outcomes) → IsSumOf outcomes s → IsSound s
IsSound-sum outcomes s can fit is =
    let has = has_sum outcomes (recursion_from_All _ (hits_of outcomes) can) fit in
    subst IsSound (one_sum outcomes has.value s has.sum is) has.sound.sound
