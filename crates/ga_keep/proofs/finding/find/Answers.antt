use Rattle.ga_disk.specs.Trace.DiskCall.{open_call}
use Rattle.ga_disk.specs.Trace.DiskTrace.{no_disk_call, one_disk_call, disk_then}
use Rattle.std.proofs.Common.{◌≡◌, true, rules}
use Rattle.ga_keep.specs.RunDatabase as spec
use Rattle.ga_keep.proofs.Found.{finds, misses}
use Rattle.ga_keep.proofs.finding.find.Goals as goal

pub returns-then-not-uses_database-clause-calls : goal.returns-then-not-uses_database-clause-calls
returns-then-not-uses_database-clause-calls g c = no_disk_call

pub returns-in_err-open-clause-calls : goal.returns-in_err-open-clause-calls
returns-in_err-open-clause-calls g c = one_disk_call (open_call c.open.ensures.opens)

pub returns-clause-calls : goal.returns-clause-calls
returns-clause-calls g c = disk_then (one_disk_call (open_call c.open.ensures.opens)) c.recover_with.ensures.looks.calls

pub returns-clause-ok : goal.returns-clause-ok
returns-clause-ok g c =
    let uses : spec.uses_database c.args.settings.now ≡ true = search rules in
    finds g.D.Disk.view g.D.Disk.images c.args.settings.now c.args.disk.now c.open.new.self c.recover_with.new.disk (g.D.Disk.counts_now c.args.disk.now) (g.D.Disk.only_now c.args.disk.now)
    c.in_ok-open.ensures.opens.ok c.open.ensures.leaves uses c.recover_with.result c.recover_with.ensures

pub returns-clause-misses : goal.returns-clause-misses
returns-clause-misses g c =
    let uses : spec.uses_database c.args.settings.now ≡ true = search rules in
    misses g.D.Disk.view g.D.Disk.images c.args.settings.now c.args.disk.now c.open.new.self c.recover_with.new.disk (g.D.Disk.counts_now c.args.disk.now) (g.D.Disk.only_now c.args.disk.now)
    c.in_ok-open.ensures.opens.ok c.open.ensures.leaves uses c.recover_with.result c.recover_with.ensures
