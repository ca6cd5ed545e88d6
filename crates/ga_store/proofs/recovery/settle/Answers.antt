use Rattle.std.proofs.Common.{ap, arith}
use Rattle.std.proofs.lemmas.Result.{err_from_is_err_and}
use Rattle.ga_disk.specs.Disk.{DiskView}
use Rattle.ga_disk.specs.Trace.DiskCall.{sync_call}
use Rattle.ga_store.proofs.RecoverDisk.{looks-failed, looks-ok, looks-then, synced-same}
use Rattle.ga_store.proofs.recovery.settle.Goals as goal

pub returns-in_err-sync-clause-looks : goal.returns-in_err-sync-clause-looks
returns-in_err-sync-clause-looks g c =
    let p = err_from_is_err_and c.from_residual.result c.from_residual.ensures.1 in
    rw (p.1, p.2) (looks-failed _ c.in_err-sync.ensures.syncs.failed.0 (sync_call c.sync.ensures.syncs) (synced-same c.sync.ensures.leaves))

pub returns-in_err-sync-2-clause-looks : goal.returns-in_err-sync-2-clause-looks
returns-in_err-sync-2-clause-looks g c =
    let p = err_from_is_err_and c.from_residual-in_err-sync-2.result c.from_residual-in_err-sync-2.ensures.1 in
    let first = looks-ok c.in_ok-sync.ensures.syncs.ok (sync_call c.sync.ensures.syncs) (synced-same c.sync.ensures.leaves) in
    let second = looks-failed _ c.in_err-sync-2.ensures.syncs.failed.0 (sync_call c.sync-2.ensures.syncs) (synced-same c.sync-2.ensures.leaves) in
    rw (p.1, p.2) (looks-then (g.D.Disk.counts_now c.args.disk.now) first second)

pub returns-clause-calls : goal.returns-clause-calls
returns-clause-calls g c =
    let first = ap (λ (v : DiskView). v.counts.calls) c.in_ok-sync.ensures.syncs.ok in
    let second = ap (λ (v : DiskView). v.counts.calls) c.in_ok-sync-2.ensures.syncs.ok in
    omega (arith, first, second)

pub returns-clause-looks : goal.returns-clause-looks
returns-clause-looks g c =
    let first = looks-ok c.in_ok-sync.ensures.syncs.ok (sync_call c.sync.ensures.syncs) (synced-same c.sync.ensures.leaves) in
    let second = looks-ok c.in_ok-sync-2.ensures.syncs.ok (sync_call c.sync-2.ensures.syncs) (synced-same c.sync-2.ensures.leaves) in
    looks-then (g.D.Disk.counts_now c.args.disk.now) first second

pub returns-clause-order : goal.returns-clause-order
returns-clause-order g c = record {
  between = c.sync.new.self;
  sync0 = record { one_call = c.in_ok-sync.ensures.syncs.ok; durable = c.in_ok-sync.ensures.leaves.durable; leaves = synced-same c.sync.ensures.leaves };
  sync1 = record { one_call = c.in_ok-sync-2.ensures.syncs.ok; durable = c.in_ok-sync-2.ensures.leaves.durable; leaves = synced-same c.sync-2.ensures.leaves };
}
