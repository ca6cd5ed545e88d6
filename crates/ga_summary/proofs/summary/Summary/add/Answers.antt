use Rattle.std.proofs.Common.{◌≡◌, Some, ap, subst}
use Rattle.std.specs.Option.{option_copied}
use Rattle.std.proofs.lemmas.Result.{err_from_is_err_and}
use Rattle.ga_summary.specs.Outcomes.{hit_of, Hit}
use Rattle.ga_summary.specs.OneLine.{line_value, record_totals}
use Rattle.ga_summary.specs.SummaryRows.{SummaryValue}
use Rattle.ga_base.specs.Totals.{totals_plus}
use Rattle.ga_summary.specs.Limits.{passes}
use Rattle.ga_summary.specs.Sound.{IsSummary}
use Rattle.ga_summary.proofs.Faults.{full_either}
use Rattle.ga_summary.proofs.Appends.{IsSumOf-append, IsMerged-same}
use Rattle.ga_summary.proofs.OneLine.{IsSumOf-line}
use Rattle.ga_summary.proofs.Soundness.{IsMerged-merged_value}
use Rattle.ga_summary.proofs.summary.Summary.add.Goals as goal

pub returns-in_err-totals-clause-full : goal.returns-in_err-totals-clause-full
returns-in_err-totals-clause-full c =
    let fault = err_from_is_err_and c.from_residual.result c.from_residual.ensures.1 in
    let full = rw c.totals_of_record.ensures at c.in_err-totals.ensures.full in
    rw (fault.1, fault.2, ← (ap (λ (v : SummaryValue). v.totals) c.self.view_is))
    (full_either c.in_err-totals.field-0.0 (λ which total. passes (totals_plus c.self.inside.totals (record_totals c.args.rec.now)) ≡ Some (which, total)) full)

pub returns-clause-sum : goal.returns-clause-sum
returns-clause-sum c = λ outcomes old.
    let hit : Hit = hit_of c.args.keys.now (option_copied c.args.visitor) c.args.rec.now in
    let mine : IsSummary c.args.self.now = subst IsSummary c.self.view_is c.self.invariant.0 in
    let one = IsSumOf-line hit c.args.rec.now.date c.requires in
    rw (c.in_ok-absorb.ensures.merged, c.in_ok-one.ensures, c.items.ensures)
    (IsSumOf-append outcomes _ c.args.self.now (line_value hit) _ old one (IsMerged-merged_value c.args.self.now (line_value hit) mine.ordered one.ordered))

pub returns-clause-merged : goal.returns-clause-merged
returns-clause-merged c = λ other is.
    let hit : Hit = hit_of c.args.keys.now (option_copied c.args.visitor) c.args.rec.now in
    let mine : IsSummary c.args.self.now = subst IsSummary c.self.view_is c.self.invariant.0 in
    let one = IsSumOf-line hit c.args.rec.now.date c.requires in
    rw (c.in_ok-absorb.ensures.merged, c.in_ok-one.ensures, c.items.ensures)
    (IsMerged-same _ c.args.self.now (line_value hit) other _ one is (IsMerged-merged_value c.args.self.now (line_value hit) mine.ordered one.ordered))
