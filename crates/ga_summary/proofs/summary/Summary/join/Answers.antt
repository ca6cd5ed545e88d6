use Rattle.std.proofs.Common.{◌≡◌, ap, subst, Some}
use Rattle.std.proofs.lemmas.Result.{err_from_is_err_and}
use Rattle.ga_summary.specs.SummaryRows.{SummaryValue}
use Rattle.ga_summary.specs.Sound.{IsSummary}
use Rattle.ga_base.specs.Totals.{totals_plus}
use Rattle.ga_summary.specs.Limits.{passes}
use Rattle.ga_summary.proofs.Faults.{full_either}
use Rattle.ga_summary.proofs.Appends.{IsSumOf-append}
use Rattle.ga_summary.proofs.Soundness.{IsMerged-merged_value}
use Rattle.ga_summary.proofs.summary.Summary.join.Goals as goal

pub returns-in_err-totals-clause-full : goal.returns-in_err-totals-clause-full
returns-in_err-totals-clause-full c =
    let fault = err_from_is_err_and c.from_residual.result c.from_residual.ensures.1 in
    rw (fault.1, fault.2, ← (ap (λ (v : SummaryValue). v.totals) c.self.view_is), ← (ap (λ (v : SummaryValue). v.totals) c.other.view_is)) (full_either c.in_err-totals.field-0.0 (λ which total. passes (totals_plus c.self.inside.totals c.other.inside.totals) ≡ Some (which, total)) c.in_err-totals.ensures.full)

pub returns-clause-merged : goal.returns-clause-merged
returns-clause-merged c =
    let mine : IsSummary c.args.self = subst IsSummary c.self.view_is c.self.invariant.0 in
    let theirs : IsSummary c.args.other = subst IsSummary c.other.view_is c.other.invariant.0 in
    rw c.in_ok-join_fitting.ensures (IsMerged-merged_value c.args.self c.args.other mine.ordered theirs.ordered)

pub returns-clause-sum : goal.returns-clause-sum
returns-clause-sum c = λ xs ys x y. IsSumOf-append xs ys c.args.self c.args.other c.in_ok-join_fitting.field-0 x y (returns-clause-merged c)
