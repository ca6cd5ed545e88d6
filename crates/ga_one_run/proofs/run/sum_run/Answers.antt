use Rattle.ga_one_run.proofs.Counting.{countable-total, sum-lines, whole-fits}
use Rattle.ga_one_run.proofs.run.sum_run.Goals as goal

pub summary-requires : goal.summary-requires
summary-requires c = countable-total _ _ _ _ c.requires.are

pub add_run-requires : goal.add_run-requires
add_run-requires c =
    let h = c.requires in
    let base = c.args.base.now.summary in
    whole-fits h.setup base _ c.in_ok-run.run' c.summary_is_sound.ensures (sum-lines h.setup base.totals _ c.args.total c.in_ok-run.run' h.are c.in_ok-run.ensures)

pub returns-clause-sums : goal.returns-clause-sums
returns-clause-sums c = record {
  run = c.in_ok-run.run';
  is_summary = c.summary_is_sound-2.ensures;
  counts = λ setup lines are. sum-lines setup c.args.base.now.summary.totals lines c.args.total c.in_ok-run.run' are c.in_ok-run.ensures;
  grown = c.in_ok-add_run.ensures.grown;
}
