use Rattle.std.proofs.Common.{List, [], arith, sym, subst}
use Rattle.ga_run.specs.History.{History}
use Rattle.ga_run.specs.History.History.{no_step}
use Rattle.ga_one_run.specs.declared.status.Status.{Status}
use Rattle.ga_run.proofs.Histories.{on-err, stops-first, stops-here, taken-more}
use Rattle.ga_run.proofs.history.run_all.Goals as goal

pub returns-in_err-statuses-clause-err : goal.returns-in_err-statuses-clause-err
returns-in_err-statuses-clause-err g c = on-err c.from_residual.result (stops-first c.args.steps.now c.args.world.now)

pub loop-step-init : goal.loop-step-init
loop-step-init g c =
    let none = c.in_ok-statuses.ensures.len in
    let exact = c.in_ok-statuses.ensures.exact in
    record {
      history = subst (λ (statuses : List Status). History [] statuses c.args.world.now c.args.world.now) (sym c.in_ok-statuses.ensures.items) no_step;
      few = omega (arith, none);
      room = omega (arith, exact);
    }

pub returns-in_err-status-clause-err : goal.returns-in_err-status-clause-err
returns-in_err-status-clause-err g c =
    on-err c.from_residual-in_err-status.result
    (stops-here c.args.steps.now c.loop-step.step-index c.step-item.result c.loop-step.statuses.items c.args.world.now c.loop-step.world c.run_step.new.world c.loop-step-test.true c.step-item.is
    c.loop-step.invariant.history c.in_err-status.ensures.err c.in_err-status.ensures.cause)

pub loop-step-preserved : goal.loop-step-preserved
loop-step-preserved g c =
    let few = c.loop-step.invariant.few in
    let room = c.loop-step.invariant.room in
    let one = c.note_status.ensures.len in
    let wide = c.note_status.ensures.capacity in
    record {
      history =
          taken-more c.args.steps.now c.loop-step.step-index c.step-item.result c.loop-step.statuses.items c.note_status.new.statuses.items c.in_ok-status.status c.args.world.now
          c.loop-step.world c.run_step.new.world c.loop-step-test.true c.step-item.is c.note_status.ensures.items c.loop-step.invariant.history c.in_ok-status.ensures.ok;
      few = omega (arith, few, one);
      room = omega (arith, room, wide);
    }
