use Rattle.std.proofs.lemmas.Result.{err_from_is_err_and}
use Rattle.ga_disk.specs.Trace.DiskTrace.{disk_then}
use Rattle.ga_store.specs.Store.{db_value}
use Rattle.ga_dbtool.specs.Outside.{disk_of, disks_of}
use Rattle.ga_dbtool.proofs.Kept.{fails, merged, merges}
use Rattle.ga_dbtool.proofs.Tasks.{commit-stops, opening-stops, preparing-stops}
use Rattle.ga_dbtool.proofs.run.keep_merged.Goals as goal

-- The disks at the start are `old`, once both databases were found `mid`, and after the commit `new`.

pub returns-in_err-pair-clause-stops : goal.returns-in_err-pair-clause-stops
returns-in_err-pair-clause-stops g c =
    let old = disks_of (disk_of (g.D.Disk.view c.args.first.now) (g.D.Disk.images c.args.first.now)) (disk_of (g.D.Disk.view c.args.second.now) (g.D.Disk.images c.args.second.now)) in
    let mid = disks_of (disk_of (g.D.Disk.view c.open_both.new.first) (g.D.Disk.images c.open_both.new.first)) (disk_of (g.D.Disk.view c.open_both.new.second) (g.D.Disk.images c.open_both.new.second)) in
    let p = err_from_is_err_and c.from_residual.result c.from_residual.ensures.1 in
    rw (p.1, p.2) (opening-stops c.args.dir.now c.args.other.now old mid _ c.in_err-pair.ensures.stops)

pub returns-in_err-ready-clause-stops : goal.returns-in_err-ready-clause-stops
returns-in_err-ready-clause-stops g c =
    let old = disks_of (disk_of (g.D.Disk.view c.args.first.now) (g.D.Disk.images c.args.first.now)) (disk_of (g.D.Disk.view c.args.second.now) (g.D.Disk.images c.args.second.now)) in
    let mid = disks_of (disk_of (g.D.Disk.view c.open_both.new.first) (g.D.Disk.images c.open_both.new.first)) (disk_of (g.D.Disk.view c.open_both.new.second) (g.D.Disk.images c.open_both.new.second)) in
    let p = err_from_is_err_and c.from_residual-in_err-ready.result c.from_residual-in_err-ready.ensures.1 in
    rw (p.1, p.2) (preparing-stops c.args.dir.now c.args.other.now old mid _ _ _ c.in_ok-pair.ensures.ok c.in_err-ready.ensures.stops)

pub commit-requires-clause-open : goal.commit-requires-clause-open
commit-requires-clause-open g c = c.in_ok-pair.ensures.ok.opened.first.is_open

pub commit-requires-clause-ready : goal.commit-requires-clause-ready
commit-requires-clause-ready g c =
    let old = disks_of (disk_of (g.D.Disk.view c.args.first.now) (g.D.Disk.images c.args.first.now)) (disk_of (g.D.Disk.view c.args.second.now) (g.D.Disk.images c.args.second.now)) in
    let mid = disks_of (disk_of (g.D.Disk.view c.open_both.new.first) (g.D.Disk.images c.open_both.new.first)) (disk_of (g.D.Disk.view c.open_both.new.second) (g.D.Disk.images c.open_both.new.second)) in
    let opens = c.in_ok-pair.ensures.ok in
    let prepared = c.in_ok-ready.ensures.ok in
    record {
      old = db_value c.in_ok-pair.pair.left;
      new = merged c.args.dir.now c.args.other.now old mid mid.first (db_value c.in_ok-pair.pair.left) (db_value c.in_ok-pair.pair.right) c.in_ok-ready.ready.work c.in_ok-ready.ready.text opens prepared;
      holds = opens.opened.first.holds;
      makes = prepared.makes;
    }

pub returns-in-Ok-clause-merged : goal.returns-in-Ok-clause-merged
returns-in-Ok-clause-merged g c =
    let old = disks_of (disk_of (g.D.Disk.view c.args.first.now) (g.D.Disk.images c.args.first.now)) (disk_of (g.D.Disk.view c.args.second.now) (g.D.Disk.images c.args.second.now)) in
    let mid = disks_of (disk_of (g.D.Disk.view c.open_both.new.first) (g.D.Disk.images c.open_both.new.first)) (disk_of (g.D.Disk.view c.open_both.new.second) (g.D.Disk.images c.open_both.new.second)) in
    merges c.args.dir.now c.args.other.now old mid (disk_of (g.D.Disk.view c.commit.new.disk) (g.D.Disk.images c.commit.new.disk)) (db_value c.in_ok-pair.pair.left) (db_value c.in_ok-pair.pair.right)
    c.in_ok-ready.ready.work c.in_ok-ready.ready.text c.in_ok-pair.ensures.ok c.in_ok-ready.ensures.ok _ c.in-Ok.ensures (g.D.Disk.reads_as_image c.commit.new.disk)

pub returns-in-Ok-clause-first_calls : goal.returns-in-Ok-clause-first_calls
returns-in-Ok-clause-first_calls g c = disk_then c.open_both.ensures.first_calls c.commit.ensures.calls

pub returns-in-Err-clause-stops : goal.returns-in-Err-clause-stops
returns-in-Err-clause-stops g c =
    let old = disks_of (disk_of (g.D.Disk.view c.args.first.now) (g.D.Disk.images c.args.first.now)) (disk_of (g.D.Disk.view c.args.second.now) (g.D.Disk.images c.args.second.now)) in
    let mid = disks_of (disk_of (g.D.Disk.view c.open_both.new.first) (g.D.Disk.images c.open_both.new.first)) (disk_of (g.D.Disk.view c.open_both.new.second) (g.D.Disk.images c.open_both.new.second)) in
    let now = disk_of (g.D.Disk.view c.commit.new.disk) (g.D.Disk.images c.commit.new.disk) in
    commit-stops c.args.dir.now c.args.other.now old (record mid { first = now })
    (fails c.args.dir.now c.args.other.now old mid now (db_value c.in_ok-pair.pair.left) (db_value c.in_ok-pair.pair.right) c.in_ok-ready.ready.work c.in_ok-ready.ready.text
    c.in_ok-pair.ensures.ok c.in_ok-ready.ensures.ok c.in-Err.field-0 c.in-Err.ensures)

pub returns-in-Err-clause-first_calls : goal.returns-in-Err-clause-first_calls
returns-in-Err-clause-first_calls g c = disk_then c.open_both.ensures.first_calls c.commit.ensures.calls
