use Rattle.std.proofs.Common.{◌≡◌, ◌∷◌, ◌∙◌, List, IfOk, ap, subst, sym, arith}
use Rattle.std.specs.Fn.{FnReturns}
use Rattle.std.specs.Fork.{GivesJobs}
use Rattle.ga_workers.proofs.JobMore.{done-more, first-and-rest}
use Rattle.ga_workers.proofs.meanwhile.+jobs.Goals as goal

pub map_meanwhile-returns-then-len-gt1-clause-work : goal.map_meanwhile-returns-then-len-gt1-clause-work
map_meanwhile-returns-then-len-gt1-clause-work g t c =
    let work = c.args.work.now in
    let jobs = c.args.jobs in
    let first = c.remove-first.result in
    let others = c.remove-first.new.self in
    let told = c.both-done.ensures in
    let same : told.first.0 ≡ c.in-Some.done = cc (told.first.1, c.in-Some.is) in
    let call = subst (λ (y : g.row.Y.Denot). FnReturns g.W.Fn work (first, tt) y) same told.first.2 in
    let apart : first ∷ others.items ≡ jobs.items = ap (λ (js : List g.row.J.Denot). first ∷ js) c.remove-first.ensures.items ∙ sym (first-and-rest jobs.items first (omega (arith, jobs.ok, c.if-len-gt1.true)) c.remove-first.ensures.value) in
    subst (λ (js : List g.row.J.Denot). IfOk c.with_first.result (λ v. GivesJobs g.W.Fn work js v.items)) apart
    (done-more g.W.Fn work others.items first c.in-Some.done c.both-done.result.1.0 c.with_first.result call told.others c.with_first.ensures)
