use Rattle.std.proofs.lemmas.Result.{err_from_is_err_and}
use Rattle.ga_one_run.proofs.Counting.{counts-on, hungry-here, of-lines, stops-here}
use Rattle.ga_one_run.proofs.run.count_on.Goals as goal

pub returns-in_err-total-clause-stops : goal.returns-in_err-total-clause-stops
returns-in_err-total-clause-stops g c =
    let p = err_from_is_err_and c.from_residual.result c.from_residual.ensures.1 in
    rw (p.1, p.2) (λ stored is. stops-here c.args.setup.now c.args.context.now.settings.now _ _ stored c.args.base.now is c.start-start.result c.start-start.ensures.start _ c.in_err-total.ensures.stops)

pub sum_run-requires : goal.sum_run-requires
sum_run-requires g c = of-lines c.args.setup.now c.args.context.now.settings.now c.args.base.now.summary c.start-start.result _ c.in_ok-total.total c.start-start.ensures.start c.in_ok-total.ensures.ok.counts

pub returns-in_err-run-clause-stops : goal.returns-in_err-run-clause-stops
returns-in_err-run-clause-stops g c =
    let p = err_from_is_err_and c.from_residual-in_err-run.result c.from_residual-in_err-run.ensures.1 in
    rw (p.1, p.2) (λ stored is. hungry-here c.args.setup.now c.args.context.now.settings.now _ _ stored c.args.base.now is c.start-start.result c.start-start.ensures.start c.count_from.new.entries c.in_ok-total.total c.in_ok-total.ensures.ok)

pub returns-in_err-run-clause-sure : goal.returns-in_err-run-clause-sure
returns-in_err-run-clause-sure g c = λ _.
    let p = err_from_is_err_and c.from_residual-in_err-run.result c.from_residual-in_err-run.ensures.1 in
    rw (p.1, p.2) tt

pub returns-clause-ok : goal.returns-clause-ok
returns-clause-ok g c = λ stored is.
    counts-on c.args.setup.now c.args.context.now.settings.now _ _ stored c.args.base.now is c.start-start.result c.start-start.ensures.start c.count_from.new.entries c.in_ok-total.total c.in_ok-run.run' c.sum_run.new.base
    c.in_ok-total.ensures.ok c.in_ok-run.ensures.sums c.sum_run.ensures.entries
