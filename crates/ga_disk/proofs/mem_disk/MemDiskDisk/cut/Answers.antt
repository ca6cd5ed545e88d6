use Rattle.std.proofs.Common.{true, sym, ◌∙◌, ◌≡◌, false}
use Rattle.ga_disk.specs.Disk.{must_fail}
use Rattle.ga_disk.proofs.Kept.{cuts-kept, cut-kept-leaves}
use Rattle.ga_disk.proofs.mem_disk.MemDiskDisk.cut.Goals as goal

pub returns-in-Ok-clause-cuts : goal.returns-in-Ok-clause-cuts
returns-in-Ok-clause-cuts c =
    let kept = c.self-2.view_is ∙ c.in-Ok.ensures.ok in
    let fine : must_fail c.args.self.now.listed c.args.self.now.bound c.args.self.now.counts.calls ≡ false = sym c.is_due.ensures ∙ c.if-is_due.false in
    rw c.call.ensures (cuts-kept c.args.self.now _ c.args.side fine c.args.len kept)

pub returns-in-Ok-clause-leaves : goal.returns-in-Ok-clause-leaves
returns-in-Ok-clause-leaves c =
    let kept = c.self-2.view_is ∙ c.in-Ok.ensures.ok in
    cut-kept-leaves c.args.self.now _ c.args.side c.args.len true kept
