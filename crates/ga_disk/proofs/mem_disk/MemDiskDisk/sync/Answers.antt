use Rattle.std.proofs.Common.{sym, ◌∙◌, ◌≡◌, false}
use Rattle.ga_disk.specs.Disk.{must_fail}
use Rattle.ga_disk.proofs.Kept.{syncs-kept, sync-kept-leaves}
use Rattle.ga_disk.proofs.mem_disk.MemDiskDisk.sync.Goals as goal

pub returns-in-Ok-clause-syncs : goal.returns-in-Ok-clause-syncs
returns-in-Ok-clause-syncs c =
    let kept = c.self-2.view_is ∙ c.in-Ok.ensures.ok in
    let fine : must_fail c.args.self.now.listed c.args.self.now.bound c.args.self.now.counts.calls ≡ false = sym c.is_due.ensures ∙ c.if-is_due.false in
    rw c.call.ensures (syncs-kept c.args.self.now _ c.args.side fine kept)

pub returns-in-Ok-clause-leaves : goal.returns-in-Ok-clause-leaves
returns-in-Ok-clause-leaves c =
    let kept = c.self-2.view_is ∙ c.in-Ok.ensures.ok in
    sync-kept-leaves c.args.self.now _ c.args.side kept
