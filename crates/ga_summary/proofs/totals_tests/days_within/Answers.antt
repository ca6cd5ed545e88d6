use Rattle.std.proofs.Common.{sym, ◌∙◌}
use Rattle.std.proofs.lemmas.Bool.{false≢true}
use Rattle.ga_summary.proofs.DaysWithin.{days_over}
use Rattle.ga_summary.proofs.totals_tests.days_within.Goals as goal

pub returns-in-None : goal.returns-in-None
returns-in-None c = (
  λ e. absurd (false≢true e),
  days_over c.args.rows.now c.loop-row.row-index c.row-item.result c.loop-row.sum c.args.most c.loop-row-test.true c.row-item.is (sym c.is_day.ensures ∙ c.if-is_day.true) c.loop-row.invariant.sum
      (rw (c.of_sums.ensures) at c.in-None.ensures),
)
