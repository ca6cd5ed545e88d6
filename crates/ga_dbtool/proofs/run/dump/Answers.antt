use Rattle.std.proofs.Common.{◌∙◌}
use Rattle.ga_ports.specs.Trace.{no_outs_call}
use Rattle.ga_dbtool.specs.Outside.{disk_of}
use Rattle.ga_print.specs.Keys.{keys_text}
use Rattle.ga_dbtool.proofs.Tasks.{missed, shown}
use Rattle.ga_dbtool.proofs.run.dump.Goals as goal

pub returns-in-Ok-clause-ends : goal.returns-in-Ok-clause-ends
returns-in-Ok-clause-ends g c =
    let old = disk_of (g.D.Disk.view c.args.disk.now) (g.D.Disk.images c.args.disk.now) in
    let new = disk_of (g.D.Disk.view c.keys_at.new.disk) (g.D.Disk.images c.keys_at.new.disk) in
    let found = c.in-Ok.ensures.found in
    shown c.args.dir.now (λ db. keys_text db.summary) old new (g.O.Outs.view c.args.outs.now) (g.O.Outs.view c.show.new.outs) c.bytes.result.now c.show.result
    (found.0, found.1, c.bytes.ensures ∙ found.2) c.show.ensures.shows

pub returns-in-Err-clause-ends : goal.returns-in-Err-clause-ends
returns-in-Err-clause-ends g c =
    let old = disk_of (g.D.Disk.view c.args.disk.now) (g.D.Disk.images c.args.disk.now) in
    let new = disk_of (g.D.Disk.view c.keys_at.new.disk) (g.D.Disk.images c.keys_at.new.disk) in
    rw c.of_store.ensures (missed c.args.dir.now (λ db. keys_text db.summary) old new (g.O.Outs.view c.args.outs.now) c.in-Err.fault c.in-Err.ensures.misses)

pub returns-in-Err-clause-calls : goal.returns-in-Err-clause-calls
returns-in-Err-clause-calls g c = no_outs_call
