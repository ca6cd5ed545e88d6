use Rattle.std.proofs.Common.{◌≡◌, Err, Some, None, ap, subst}
use Rattle.ga_base.specs.Totals.{totals_plus}
use Rattle.ga_summary.specs.Limits.{passes}
use Rattle.ga_summary.specs.SummaryRows.{SummaryValue}
use Rattle.ga_summary.specs.Sums.{IsMerged}
use Rattle.ga_dbtool.proofs.Prepared.{join-stops, none-passes}
use Rattle.ga_dbtool.proofs.merging.last_days_of.Goals as goal

pub returns-in-Ok-clause-ok : goal.returns-in-Ok-clause-ok
returns-in-Ok-clause-ok c = (
  c.in-Ok.both,
  subst (λ (more : SummaryValue). IsMerged c.args.left more c.in-Ok.both) c.in_ok-more.ensures c.in-Ok.ensures.merged,
  c.trimmed.ensures,
)

pub returns-in-Ok-clause-fits : goal.returns-in-Ok-clause-fits
returns-in-Ok-clause-fits c =
    subst (λ (more : SummaryValue). passes (totals_plus c.args.left.totals more.totals) ≡ None) c.in_ok-more.ensures
    (none-passes _ (λ which total e. absurd (cc ((c.in-Ok.ensures.full which total).1 e))))

pub returns-in-Err-clause-stops : goal.returns-in-Err-clause-stops
returns-in-Err-clause-stops c =
    rw c.from.ensures (join-stops c.args.left c.args.right.now c.in-Err.fault
    (λ which total e. subst (λ (more : SummaryValue). passes (totals_plus c.args.left.totals more.totals) ≡ Some (which, total)) c.in_ok-more.ensures ((c.in-Err.ensures.full which total).0 (ap Err e))))
