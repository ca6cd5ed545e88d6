use Rattle.std.proofs.Common.{ap}
use Rattle.ga_disk.specs.MemDisk.{MemSides}
use Rattle.ga_disk.specs.declared.change.Change.TheVariants.{Sync}
use Rattle.ga_disk.proofs.Moments.{replays-more}
use Rattle.ga_disk.proofs.mem_disk.MemDisk.settle.Goals as goal

pub invariant_of-self-2 : goal.invariant_of-self-2
invariant_of-self-2 c =
    let was = c.self.inside in
    let step = c.sync.ensures in
    replays-more was.sides.start _ was.sides.state _ was.changes.items _ (Sync c.args.side) c.self.invariant
    (ap (λ (s : MemSides). s.start) step) (ap (λ (s : MemSides). s.state) step) c.in_ok-push.ensures.items
