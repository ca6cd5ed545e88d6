use Rattle.ga_disk.specs.Trace.DiskTrace.{no_disk_call}
use Rattle.ga_dbtool.specs.Outside.{disk_of}
use Rattle.ga_dbtool.proofs.Tasks.{checked, dumped}
use Rattle.ga_dbtool.proofs.run.run_task.Goals as goal

pub returns-in-Check-clause-ends : goal.returns-in-Check-clause-ends
returns-in-Check-clause-ends g c =
    let second = disk_of (g.D.Disk.view c.args.second.now) (g.D.Disk.images c.args.second.now) in
    rw c.in-Check.is (checked c.in-Check.dir.now (disk_of (g.D.Disk.view c.args.first.now) (g.D.Disk.images c.args.first.now)) (disk_of (g.D.Disk.view c.check.new.disk) (g.D.Disk.images c.check.new.disk)) second
    (g.O.Outs.view c.args.outs.now) (g.O.Outs.view c.check.new.outs) c.check.result c.check.ensures.ends)

pub returns-in-Check-clause-second_calls : goal.returns-in-Check-clause-second_calls
returns-in-Check-clause-second_calls g c = no_disk_call

pub returns-in-Dump-clause-ends : goal.returns-in-Dump-clause-ends
returns-in-Dump-clause-ends g c =
    let second = disk_of (g.D.Disk.view c.args.second.now) (g.D.Disk.images c.args.second.now) in
    rw c.in-Dump.is (dumped c.in-Dump.dir.now (disk_of (g.D.Disk.view c.args.first.now) (g.D.Disk.images c.args.first.now)) (disk_of (g.D.Disk.view c.dump.new.disk) (g.D.Disk.images c.dump.new.disk)) second
    (g.O.Outs.view c.args.outs.now) (g.O.Outs.view c.dump.new.outs) c.dump.result c.dump.ensures.ends)

pub returns-in-Dump-clause-second_calls : goal.returns-in-Dump-clause-second_calls
returns-in-Dump-clause-second_calls g c = no_disk_call

pub returns-in-Merge-clause-ends : goal.returns-in-Merge-clause-ends
returns-in-Merge-clause-ends g c = rw c.in-Merge.is c.merge.ensures.ends
