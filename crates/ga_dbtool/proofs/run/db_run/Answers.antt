use Rattle.std.proofs.Common.{subst, sym}
use Rattle.ga_disk.specs.Trace.DiskTrace.{no_disk_call}
use Rattle.ga_ports.specs.Trace.OutsTrace.{outs_then}
use Rattle.ga_dbtool.specs.DbRun.{IsDbRun}
use Rattle.ga_dbtool.specs.Outside.{disk_of, disks_of, outside_of}
use Rattle.ga_dbtool.specs.Steps.Tasks.{task_value}
use Rattle.ga_dbtool.specs.declared.status.DbStatus.{DbStatus}
use Rattle.ga_dbtool.proofs.Runs.{run-bad, run-of}
use Rattle.ga_dbtool.proofs.run.db_run.Goals as goal

pub returns-in-Ok : goal.returns-in-Ok
returns-in-Ok g c =
    let first = disk_of (g.D.Disk.view c.args.first.now) (g.D.Disk.images c.args.first.now) in
    let second = disk_of (g.D.Disk.view c.args.second.now) (g.D.Disk.images c.args.second.now) in
    let old = outside_of first second (g.O.Outs.view c.args.outs.now) in
    let disks =
    disks_of (disk_of (g.D.Disk.view c.run_task-status.new.first) (g.D.Disk.images c.run_task-status.new.first))
    (disk_of (g.D.Disk.view c.run_task-status.new.second) (g.D.Disk.images c.run_task-status.new.second)) in
    run-of c.args.words.now old disks (g.O.Outs.view c.run_task-status.new.outs) (g.O.Outs.view c.tell.new.outs) c.run_task-status.result (g.D.Disk.only_now c.args.second.now)
    c.run_task-status.ensures.errors c.tell.ensures.line c.tell.ensures.others c.run_task-status.ensures.first_calls c.run_task-status.ensures.second_calls
    (outs_then c.run_task-status.ensures.calls c.tell.ensures.calls) (task_value c.in-Ok.task) c.in-Ok.ensures.task c.run_task-status.ensures.ends

pub returns-in-Err : goal.returns-in-Err
returns-in-Err g c =
    let first = disk_of (g.D.Disk.view c.args.first.now) (g.D.Disk.images c.args.first.now) in
    let second = disk_of (g.D.Disk.view c.args.second.now) (g.D.Disk.images c.args.second.now) in
    let old = outside_of first second (g.O.Outs.view c.args.outs.now) in
    let new = outside_of first second (g.O.Outs.view c.refuse.new.outs) in
    subst (λ (status : DbStatus). IsDbRun c.args.words.now old new status) (sym c.refuse.ensures.status)
    (run-bad c.args.words.now old (g.O.Outs.view c.refuse.new.outs) c.in-Err.at (g.D.Disk.only_now c.args.second.now) c.in-Err.ensures.bad c.refuse.ensures.line c.refuse.ensures.others no_disk_call
    no_disk_call c.refuse.ensures.calls)
