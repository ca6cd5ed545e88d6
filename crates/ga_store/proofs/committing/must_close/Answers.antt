use Rattle.std.proofs.Common.{◌≡◌, length}
use Rattle.std.proofs.lemmas.Result.{err_from_is_err_and}
use Rattle.ga_store.proofs.CommitSteps.{looks-read, looks-read-err, looks-short, looks-size-err}
use Rattle.ga_store.proofs.committing.must_close.Goals as goal

pub returns-in_err-size : goal.returns-in_err-size
returns-in_err-size g c =
    let p = err_from_is_err_and c.from_residual.result c.from_residual.ensures.1 in
    rw (p.1, p.2) (looks-size-err c.in_err-size.ensures.sizes c.in_err-size.ensures.leaves)

pub returns-then-size-gate : goal.returns-then-size-gate
returns-then-size-gate g c = looks-short c.in_ok-size.ensures.sizes c.in_ok-size.ensures.leaves c.if-size-gate.true

pub returns-in_err-read_at : goal.returns-in_err-read_at
returns-in_err-read_at g c =
    let p = err_from_is_err_and c.from_residual-in_err-read_at.result c.from_residual-in_err-read_at.ensures.1 in
    rw (p.1, p.2) (looks-read-err c.in_ok-size.ensures.sizes c.in_ok-size.ensures.leaves c.in_err-read_at.ensures.leaves
    (g.D.Disk.counts_now c.args.disk.now) c.in_err-read_at.ensures.reads)

pub returns : goal.returns
returns g c =
    let one : length c.read_at.new.into ≡ 1 = c.read_at.auto.into in
    looks-read c.in_ok-size.ensures.sizes c.in_ok-size.ensures.leaves c.in_ok-read_at.ensures.leaves
    (g.D.Disk.counts_now c.args.disk.now) c.in_ok-read_at.ensures.reads c.if-size-gate.false one
