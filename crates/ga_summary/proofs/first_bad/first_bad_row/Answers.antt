use Rattle.ga_summary.proofs.FirstBad.{good_none, good_more}
use Rattle.ga_summary.proofs.LayerSteps.{begun_sums}
use Rattle.ga_summary.proofs.first_bad.first_bad_row.Goals as goal

pub loop-at-init : goal.loop-at-init
loop-at-init c = record { good = good_none c.args.rows.now; passed = rw (c.begin-sums.ensures) begun_sums }

pub loop-at-preserved : goal.loop-at-preserved
loop-at-preserved c = record {
  good = good_more c.args.rows.now c.loop-at.at c.loop-at.invariant.good c.in-Some.ensures.0;
  passed = c.in-Some.ensures.1;
}
