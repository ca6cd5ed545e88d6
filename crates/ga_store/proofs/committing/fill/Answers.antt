use Rattle.std.proofs.Common.{◌≡◌, ◌+◌, ℕ, length, ap, arith}
use Rattle.std.proofs.lemmas.Result.{err_from_is_err_and}
use Rattle.ga_store.proofs.CommitAs.{ends-as, synced-as, torn-as, writes-as}
use Rattle.ga_store.proofs.CommitFill.{fills-end-err, fills-ok, fills-sync-err, fills-write-err}
use Rattle.ga_store.proofs.committing.fill.Goals as goal

pub returns-in_err-write_at : goal.returns-in_err-write_at
returns-in_err-write_at g c =
    let p = err_from_is_err_and c.from_residual.result c.from_residual.ensures.1 in
    let at = ap (λ (n : ℕ). n + 1) c.gate-start.ensures in
    let writes = writes-as c.side.ensures at c.tail-tail.ensures c.in_err-write_at.ensures.writes in
    let leaves = torn-as c.side.ensures at c.tail-tail.ensures c.in_err-write_at.ensures.leaves in
    rw (p.1, p.2) (fills-write-err c.args.work.now (g.D.Disk.only_now c.args.disk.now) writes leaves)

pub returns-in_err-end_side : goal.returns-in_err-end_side
returns-in_err-end_side g c =
    let p = err_from_is_err_and c.from_residual-in_err-end_side.result c.from_residual-in_err-end_side.ensures.1 in
    let at = ap (λ (n : ℕ). n + 1) c.gate-start.ensures in
    let len : c.gate-start.result + 1 + length c.tail-tail.result.now ≡ c.args.work.now.gate + 1 + length c.args.work.now.tail = omega (arith, c.gate-start.ensures, ap length c.tail-tail.ensures) in
    let writes = writes-as c.side.ensures at c.tail-tail.ensures c.in_ok-write_at.ensures.writes in
    let leaves = torn-as c.side.ensures at c.tail-tail.ensures c.in_ok-write_at.ensures.leaves in
    let ends = ends-as c.side-2.ensures len c.is_new.ensures c.in_err-end_side.ensures in
    rw (p.1, p.2) (fills-end-err c.args.work.now (g.D.Disk.only_now c.args.disk.now) writes leaves ends)

pub returns-in_err-sync : goal.returns-in_err-sync
returns-in_err-sync g c =
    let p = err_from_is_err_and c.from_residual-in_err-sync.result c.from_residual-in_err-sync.ensures.1 in
    let at = ap (λ (n : ℕ). n + 1) c.gate-start.ensures in
    let len : c.gate-start.result + 1 + length c.tail-tail.result.now ≡ c.args.work.now.gate + 1 + length c.args.work.now.tail = omega (arith, c.gate-start.ensures, ap length c.tail-tail.ensures) in
    let writes = writes-as c.side.ensures at c.tail-tail.ensures c.in_ok-write_at.ensures.writes in
    let leaves = torn-as c.side.ensures at c.tail-tail.ensures c.in_ok-write_at.ensures.leaves in
    let ends = ends-as c.side-2.ensures len c.is_new.ensures c.in_ok-end_side.ensures in
    rw (p.1, p.2) (fills-sync-err c.args.work.now (g.D.Disk.only_now c.args.disk.now) writes leaves ends c.requires.within
    c.in_err-sync.ensures.syncs (synced-as c.side-3.ensures c.in_err-sync.ensures.leaves))

pub returns : goal.returns
returns g c =
    let at = ap (λ (n : ℕ). n + 1) c.gate-start.ensures in
    let len : c.gate-start.result + 1 + length c.tail-tail.result.now ≡ c.args.work.now.gate + 1 + length c.args.work.now.tail = omega (arith, c.gate-start.ensures, ap length c.tail-tail.ensures) in
    let writes = writes-as c.side.ensures at c.tail-tail.ensures c.in_ok-write_at.ensures.writes in
    let leaves = torn-as c.side.ensures at c.tail-tail.ensures c.in_ok-write_at.ensures.leaves in
    let ends = ends-as c.side-2.ensures len c.is_new.ensures c.in_ok-end_side.ensures in
    fills-ok c.args.work.now (g.D.Disk.only_now c.args.disk.now) writes leaves ends c.requires.within
    c.in_ok-sync.ensures.syncs (synced-as c.side-3.ensures c.in_ok-sync.ensures.leaves)
