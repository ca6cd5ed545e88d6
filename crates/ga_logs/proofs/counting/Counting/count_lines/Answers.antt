use Rattle.std.proofs.Common.{◌++◌, Option, Err, ap, sym, subst, true, arith, length, ◌∙◌, inl}
use Rattle.ga_line.specs.Lines.{lines}
use Rattle.ga_workers.proofs.Answers.{told-ok}
use Rattle.ga_workers.specs.declared.fault.PoolFault.{PoolFault}
use Rattle.ga_logs.proofs.Counts.{all-fit, as-many-on, counted-on, fills-behind, have-on, none-counted, same-items, some-none, some-on, unfilled}
use Rattle.ga_logs.specs.Counting.{CountingSeen, HasCounted, HasCountedBy}
use Rattle.ga_logs.specs.declared.full.Full.{Full}
use Rattle.ga_logs.proofs.counting.Counting.count_lines.Goals as goal

pub count_on-counted-requires-clause-before : goal.count_on-counted-requires-clause-before
count_on-counted-requires-clause-before g c κs within =
    let none = ap (λ (v : CountingSeen). v.full) c.self.view_is ∙ c.requires.open in
    rw c.replace-tallies.ensures.value (all-fit c.self.inside.start c.self.inside.tallies.items c.self.invariant.0 (c.self.invariant.3 none))

pub invariant_of-self : goal.invariant_of-self
invariant_of-self g c =
    let inside = c.self.inside in
    let given = c.replace-tallies.result in
    let more = c.in-Ok.more in
    let setup = c.args.crew.now.setup.now in
    let all = lines c.args.batch.now true in
    let same = same-items given inside.tallies c.replace-tallies.ensures.value in
    let on = told-ok c.count_on-counted.result.0 more _ c.in-Ok.is c.count_on-counted.ensures.ok in
    let fit = told-ok c.count_on-counted.result.0 more _ c.in-Ok.is c.count_on-counted.ensures.fit in
    let many = as-many-on setup inside.start all inside.tallies.items given.items more.items same on fit in (
      c.self.invariant.0,
      c.self.invariant.1,
      omega (arith, many, more.ok, inside.tallies.ok, c.self.invariant.2),
      λ none. some-on setup inside.start all inside.tallies.items given.items more.items same on fit (c.self.invariant.3 none),
      c.self.invariant.4,
      have-on inside.workers.jobs inside.tallies.items more.items c.self.invariant.5 many,
    )

pub invariant_of-self-in-NoMemory : goal.invariant_of-self-in-NoMemory
invariant_of-self-in-NoMemory g c =
    let left = c.replace-tallies.new.dest in
    let none = same-items left c.new.result c.replace-tallies.ensures.after ∙ c.new.ensures.items in (
      c.self.invariant.0,
      c.self.invariant.1,
      omega (arith, ap length none, left.ok),
      λ _. some-none c.self.inside.start left.items (none-counted left.items none),
      c.self.invariant.4,
      inl none,
    )

pub returns-in-Ok-clause-counted : goal.returns-in-Ok-clause-counted
returns-in-Ok-clause-counted g c before has =
    let inside = c.self.inside in
    let given = c.replace-tallies.result in
    let more = c.in-Ok.more in
    let setup = c.args.crew.now.setup.now in
    let all = lines c.args.batch.now true in
    let none = ap (λ (v : CountingSeen). v.full) c.self.view_is ∙ c.requires.open in
    let same = same-items given inside.tallies c.replace-tallies.ensures.value in
    let on = told-ok c.count_on-counted.result.0 more _ c.in-Ok.is c.count_on-counted.ensures.ok in
    let fit = told-ok c.count_on-counted.result.0 more _ c.in-Ok.is c.count_on-counted.ensures.fit in
    let held = subst (λ (v : CountingSeen). HasCounted setup before v) (sym c.self.view_is) has in
    let was = unfilled inside.full setup inside.start before inside.tallies.items none held in
    subst (λ (f : Option Full). HasCountedBy f setup inside.start (before ++ all) more.items) (sym none)
    (counted-on setup inside.start all inside.tallies.items given.items more.items same on fit before was)

pub returns-in-CounterFull-clause-counted : goal.returns-in-CounterFull-clause-counted
returns-in-CounterFull-clause-counted g c before has =
    let inside = c.self.inside in
    let given = c.replace-tallies.result in
    let setup = c.args.crew.now.setup.now in
    let which = c.in-CounterFull.which in
    let value = c.in-CounterFull.total in
    let none = ap (λ (v : CountingSeen). v.full) c.self.view_is ∙ c.requires.open in
    let same = same-items given inside.tallies c.replace-tallies.ensures.value in
    let held = subst (λ (v : CountingSeen). HasCounted setup before v) (sym c.self.view_is) has in
    let was = unfilled inside.full setup inside.start before inside.tallies.items none held in
    fills-behind setup inside.start before (lines c.args.batch.now true) inside.tallies.items given.items which value same was
    (c.count_on-counted.ensures.full which value (c.in-Err.is ∙ ap (λ (fault : PoolFault). Err fault) c.in-CounterFull.is))

pub count_on-counted-requires-clause-small : goal.count_on-counted-requires-clause-small
count_on-counted-requires-clause-small g c κs within =
    let limit = ap (λ (v : CountingSeen). v.start.limit) c.self.view_is in
    omega (arith, c.requires.small, limit, c.self.invariant.4.jobs)
