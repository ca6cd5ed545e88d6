use Rattle.std.proofs.Common.{ap}
use Rattle.ga_disk.specs.MemDisk.{MemSides}
use Rattle.ga_disk.specs.declared.change.Change.TheVariants.{Cut}
use Rattle.ga_disk.proofs.Moments.{replays-more}
use Rattle.ga_disk.proofs.mem_disk.MemDisk.shorten.Goals as goal

pub invariant_of-self-2 : goal.invariant_of-self-2
invariant_of-self-2 c =
    let was = c.self.inside in
    let kept = rw (c.unwrap.ensures, c.reserve.ensures.items) at c.push.ensures.items in
    let step = c.in_ok-cut.ensures.ok in
    replays-more was.sides.start _ was.sides.state _ was.changes.items _ (Cut c.args.side c.args.len) c.self.invariant
    (ap (λ (s : MemSides). s.start) step) (ap (λ (s : MemSides). s.state) step) kept
