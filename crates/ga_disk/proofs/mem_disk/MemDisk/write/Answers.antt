use Rattle.std.proofs.Common.{◌++◌, ◌∷◌, [], ap, ◌∙◌, List, ℕ}
use Rattle.ga_disk.specs.MemDisk.{MemSides}
use Rattle.ga_disk.specs.declared.change.Change.TheVariants.{Write}
use Rattle.ga_disk.proofs.Moments.{replays-more}
use Rattle.ga_disk.proofs.mem_disk.MemDisk.write.Goals as goal

pub invariant_of-self-2 : goal.invariant_of-self-2
invariant_of-self-2 c =
    let was = c.self.inside in
    let kept = rw (c.unwrap.ensures, c.reserve.ensures.items) at c.push.ensures.items in
    let same = ap (λ (p : List ℕ). was.changes.items ++ Write c.args.side c.args.at p ∷ []) c.in_ok-kept.ensures in
    let step = c.in_ok-write.ensures.ok in
    replays-more was.sides.start _ was.sides.state _ was.changes.items _ (Write c.args.side c.args.at c.args.piece.now) c.self.invariant
    (ap (λ (s : MemSides). s.start) step) (ap (λ (s : MemSides). s.state) step) (kept ∙ same)
