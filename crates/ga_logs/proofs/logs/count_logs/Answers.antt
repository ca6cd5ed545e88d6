use Rattle.std.proofs.Common.{[], sym, ap, subst, append-nil, Err}
use Rattle.std.proofs.lemmas.Result.{err_from_is_err_and}
use Rattle.ga_logs.specs.Counting.{CountingStart, HaveTallies}
use Rattle.ga_logs.proofs.LogsSteps.{counts-logs, none-failed, stops-sum}
use Rattle.ga_logs.proofs.logs.count_logs.Goals as goal

pub count_all-requires-clause-none : goal.count_all-requires-clause-none
count_all-requires-clause-none g c = λ _ _. c.new-counting.ensures.none c.args.crew.now.setup.now

pub returns-in_err-count_all-clause-stops : goal.returns-in_err-count_all-clause-stops
returns-in_err-count_all-clause-stops g c =
    let p = err_from_is_err_and c.from_residual.result c.from_residual.ensures.1 in
    rw (p.1, p.2) c.in_err-count_all.ensures.stops

pub returns-in_err-count_all-clause-sure : goal.returns-in_err-count_all-clause-sure
returns-in_err-count_all-clause-sure g c =
    let p = err_from_is_err_and c.from_residual.result c.from_residual.ensures.1 in
    λ can. rw (p.1, p.2) (c.in_err-count_all.ensures.sure can)

pub returns-in_err-total-clause-stops : goal.returns-in_err-total-clause-stops
returns-in_err-total-clause-stops g c =
    let p = err_from_is_err_and c.from_residual-in_err-total.result c.from_residual-in_err-total.ensures.1 in
    let names = c.args.names.now in
    rw (p.1, p.2) (stops-sum c.args.crew.now.setup.now c.args.start c.args.generated names names [] (sym (append-nil names)) c.args.entries.now _ _ _ c.count_all.new.counting
    c.in_ok-count_all.ensures.ok _ (λ full e. c.in_err-total.ensures.full full (ap (λ fault. Err fault) e)))

pub returns-in_err-total-clause-sure : goal.returns-in_err-total-clause-sure
returns-in_err-total-clause-sure g c =
    let p = err_from_is_err_and c.from_residual-in_err-total.result c.from_residual-in_err-total.ensures.1 in
    λ can. rw (p.1, p.2) (none-failed _)

pub returns-clause-ok : goal.returns-clause-ok
returns-clause-ok g c =
    let view = g.F.Files.view in
    counts-logs c.args.crew.now.setup.now c.args.start c.args.generated c.args.names.now c.args.entries.now c.count_all.new.entries (view c.args.files.now) (view c.count_all.new.files) c.count_all.new.counting
    c.in_ok-total.total c.in_ok-count_all.ensures.ok c.in_ok-total.ensures.ok

pub returns-clause-counted_by : goal.returns-clause-counted_by
returns-clause-counted_by g c =
    let start = c.in_ok-count_all.ensures.begun in
    record {
      counting = c.count_all.new.counting;
      start = start;
      tallies = subst (λ (s : CountingStart). HaveTallies s.workers.jobs c.count_all.new.counting.tallies) start c.into_total.ensures.tallies;
      together = c.in_ok-total.ensures.together;
    }
