use Rattle.std.proofs.lemmas.Result.{err_from_is_err_and}
use Rattle.ga_store.proofs.CommitSteps.{sets-ok, sets-sync-err, sets-write-err}
use Rattle.ga_store.proofs.committing.set_gate.Goals as goal

pub returns-in_err-write_at : goal.returns-in_err-write_at
returns-in_err-write_at g c =
    let p = err_from_is_err_and c.from_residual.result c.from_residual.ensures.1 in
    rw (p.1, p.2) (sets-write-err c.args.side c.args.gate c.args.byte (g.D.Disk.only_now c.args.disk.now) c.in_err-write_at.ensures.writes c.in_err-write_at.ensures.leaves)

pub returns-in_err-sync : goal.returns-in_err-sync
returns-in_err-sync g c =
    let p = err_from_is_err_and c.from_residual-in_err-sync.result c.from_residual-in_err-sync.ensures.1 in
    rw (p.1, p.2) (sets-sync-err c.args.side c.args.gate c.args.byte (g.D.Disk.only_now c.args.disk.now) c.in_ok-write_at.ensures.writes c.in_ok-write_at.ensures.leaves
    c.in_err-sync.ensures.syncs c.in_err-sync.ensures.leaves)

pub returns : goal.returns
returns g c =
    sets-ok c.args.side c.args.gate c.args.byte (g.D.Disk.only_now c.args.disk.now) c.in_ok-write_at.ensures.writes c.in_ok-write_at.ensures.leaves
    c.in_ok-sync.ensures.syncs c.in_ok-sync.ensures.leaves
