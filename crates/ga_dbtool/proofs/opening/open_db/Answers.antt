use Rattle.ga_disk.specs.Trace.DiskCall.{open_call}
use Rattle.ga_disk.specs.Trace.DiskTrace.{one_disk_call, disk_then}
use Rattle.ga_dbtool.proofs.Found.{finds, misses}
use Rattle.ga_dbtool.proofs.opening.open_db.Goals as goal

pub returns-in_err-open-clause-calls : goal.returns-in_err-open-clause-calls
returns-in_err-open-clause-calls g c = one_disk_call (open_call c.open.ensures.opens)

pub returns-clause-calls : goal.returns-clause-calls
returns-clause-calls g c = disk_then (one_disk_call (open_call c.open.ensures.opens)) c.recover.ensures.looks.calls

pub returns-clause-found : goal.returns-clause-found
returns-clause-found g c =
    finds g.D.Disk.view g.D.Disk.images c.args.dir.now c.args.disk.now c.open.new.self c.recover.new.disk (g.D.Disk.counts_now c.args.disk.now) (g.D.Disk.only_now c.args.disk.now)
    c.in_ok-open.ensures.opens.ok c.open.ensures.leaves c.recover.result c.recover.ensures

pub returns-clause-misses : goal.returns-clause-misses
returns-clause-misses g c =
    misses g.D.Disk.view g.D.Disk.images c.args.dir.now c.args.disk.now c.open.new.self c.recover.new.disk (g.D.Disk.counts_now c.args.disk.now) (g.D.Disk.only_now c.args.disk.now)
    c.in_ok-open.ensures.opens.ok c.open.ensures.leaves c.recover.result c.recover.ensures
