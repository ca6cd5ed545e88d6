use Rattle.std.proofs.Common.{arith}
use Rattle.std.proofs.lemmas.Result.{err_from_is_err_and}
use Rattle.ga_store.proofs.CommitAs.{closes-as, reaches-as, sets-as}
use Rattle.ga_store.proofs.CommitEnds.{commits-close, commits-end, commits-fill}
use Rattle.ga_store.proofs.CommitReady.{closed-reaches, ready-fits, ready-reaches, ready-side, tail-reaches}
use Rattle.ga_store.proofs.committing.commit.Goals as goal

pub close_gate-requires-clause-side : goal.close_gate-requires-clause-side
close_gate-requires-clause-side g c = omega (arith, c.side.ensures, ready-side c.requires.ready)

pub close_gate-requires-clause-within : goal.close_gate-requires-clause-within
close_gate-requires-clause-within g c = reaches-as _ _ _ _ _ c.side.ensures c.gate.ensures (ready-reaches c.requires.ready)

pub close_gate-requires-clause-fits : goal.close_gate-requires-clause-fits
close_gate-requires-clause-fits g c = omega (arith, c.gate.ensures, ready-fits c.requires.ready)

pub returns-in_err-close_gate : goal.returns-in_err-close_gate
returns-in_err-close_gate g c =
    let p = err_from_is_err_and c.from_residual.result c.from_residual.ensures.1 in
    rw (p.1, p.2) (commits-close c.args.work c.requires.ready (closes-as c.side.ensures c.gate.ensures c.in_err-close_gate.ensures)
    (g.D.Disk.reads_as_image c.close_gate.new.disk))

pub fill-requires-clause-side : goal.fill-requires-clause-side
fill-requires-clause-side g c = ready-side c.requires.ready

pub fill-requires-clause-within : goal.fill-requires-clause-within
fill-requires-clause-within g c =
    let closes = closes-as c.side.ensures c.gate.ensures c.in_ok-close_gate.ensures in
    closed-reaches c.args.work.side c.args.work.gate _ _ (ready-reaches c.requires.ready) closes.reads

pub fill-requires-clause-fits : goal.fill-requires-clause-fits
fill-requires-clause-fits g c = ready-fits c.requires.ready

pub returns-in_err-fill : goal.returns-in_err-fill
returns-in_err-fill g c =
    let p = err_from_is_err_and c.from_residual-in_err-fill.result c.from_residual-in_err-fill.ensures.1 in
    rw (p.1, p.2) (commits-fill c.args.work c.requires.ready (closes-as c.side.ensures c.gate.ensures c.in_ok-close_gate.ensures) c.in_err-fill.ensures
    (g.D.Disk.reads_as_image c.fill.new.disk))

pub set_gate-requires-clause-side : goal.set_gate-requires-clause-side
set_gate-requires-clause-side g c = omega (arith, c.side-2.ensures, ready-side c.requires.ready)

pub set_gate-requires-clause-within : goal.set_gate-requires-clause-within
set_gate-requires-clause-within g c =
    let closes = closes-as c.side.ensures c.gate.ensures c.in_ok-close_gate.ensures in
    let reaches = closed-reaches c.args.work.side c.args.work.gate _ _ (ready-reaches c.requires.ready) closes.reads in
    reaches-as _ _ _ _ _ c.side-2.ensures c.gate-2.ensures (tail-reaches c.args.work _ _ reaches c.in_ok-fill.ensures.reads)

pub returns : goal.returns
returns g c =
    let closes = closes-as c.side.ensures c.gate.ensures c.in_ok-close_gate.ensures in
    let sets = sets-as c.side-2.ensures c.gate-2.ensures c.set_gate.ensures in
    commits-end c.args.work c.set_gate.result c.requires.ready closes c.in_ok-fill.ensures sets (g.D.Disk.reads_as_image c.set_gate.new.disk)
