use Rattle.std.proofs.Common.{List, ℕ, subst, sym}
use Rattle.ga_ports.specs.Trace.{no_outs_call}
use Rattle.ga_dbtool.specs.Ends.{Merges}
use Rattle.ga_dbtool.specs.Outside.{disk_of, disks_of}
use Rattle.ga_dbtool.proofs.Tasks.{merged-shown, stopped-quiet}
use Rattle.ga_dbtool.proofs.run.merge.Goals as goal

pub returns-in-Ok-clause-ends : goal.returns-in-Ok-clause-ends
returns-in-Ok-clause-ends g c =
    let old = disks_of (disk_of (g.D.Disk.view c.args.first.now) (g.D.Disk.images c.args.first.now)) (disk_of (g.D.Disk.view c.args.second.now) (g.D.Disk.images c.args.second.now)) in
    let new =
    disks_of (disk_of (g.D.Disk.view c.keep_merged.new.first) (g.D.Disk.images c.keep_merged.new.first)) (disk_of (g.D.Disk.view c.keep_merged.new.second) (g.D.Disk.images c.keep_merged.new.second)) in
    merged-shown c.args.dir.now c.args.other.now old new (g.O.Outs.view c.args.outs.now) (g.O.Outs.view c.show.new.outs) c.bytes.result.now c.show.result
    (subst (λ (text : List ℕ). Merges c.args.dir.now c.args.other.now text old new) (sym c.bytes.ensures) c.in-Ok.ensures.merged) c.show.ensures.shows

pub returns-in-Err-clause-ends : goal.returns-in-Err-clause-ends
returns-in-Err-clause-ends g c =
    let old = disks_of (disk_of (g.D.Disk.view c.args.first.now) (g.D.Disk.images c.args.first.now)) (disk_of (g.D.Disk.view c.args.second.now) (g.D.Disk.images c.args.second.now)) in
    let new =
    disks_of (disk_of (g.D.Disk.view c.keep_merged.new.first) (g.D.Disk.images c.keep_merged.new.first)) (disk_of (g.D.Disk.view c.keep_merged.new.second) (g.D.Disk.images c.keep_merged.new.second)) in
    stopped-quiet c.args.dir.now c.args.other.now old new (g.O.Outs.view c.args.outs.now) (g.O.Outs.view c.args.outs.now) c.in-Err.status c.in-Err.ensures.stops

pub returns-in-Err-clause-calls : goal.returns-in-Err-clause-calls
returns-in-Err-clause-calls g c = no_outs_call
