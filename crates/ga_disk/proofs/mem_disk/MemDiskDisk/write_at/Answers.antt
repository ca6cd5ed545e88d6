use Rattle.std.proofs.Common.{true, sym, ◌∙◌, ◌≡◌, false}
use Rattle.ga_disk.specs.Disk.{must_fail}
use Rattle.ga_disk.proofs.Kept.{writes-kept, write-kept-leaves}
use Rattle.ga_disk.proofs.mem_disk.MemDiskDisk.write_at.Goals as goal

pub returns-in-Ok-clause-writes : goal.returns-in-Ok-clause-writes
returns-in-Ok-clause-writes c =
    let kept = c.self-2.view_is ∙ c.in-Ok.ensures.ok in
    let fine : must_fail c.args.self.now.listed c.args.self.now.bound c.args.self.now.counts.calls ≡ false = sym c.is_due.ensures ∙ c.if-is_due.false in
    rw c.call.ensures (writes-kept c.args.self.now _ c.args.side fine c.args.at c.args.piece.now kept c.in-Ok.ensures.fits c.requires.within)

pub returns-in-Ok-clause-leaves : goal.returns-in-Ok-clause-leaves
returns-in-Ok-clause-leaves c =
    let kept = c.self-2.view_is ∙ c.in-Ok.ensures.ok in
    write-kept-leaves c.args.self.now _ c.args.side c.args.at c.args.piece.now true kept c.requires.within
