use Rattle.std.proofs.Common.{◌≡◌, ◌-◌, List, ℕ, length}
use Rattle.ga_store.specs.Steps.Stream.{Took, asked}
use Rattle.ga_store.proofs.side_stream.SideStream.drain.Given as goal

abbrev pub invariant-loop-self : goal.invariant-loop-self
invariant-loop-self g l = record {
  taken : List ℕ;
  took : Took (g.D.Disk.view l.initial.disk) (g.D.Disk.view l.disk) (g.D.Disk.images l.initial.disk) (g.D.Disk.images l.disk) l.initial.self l.self taken;
  none : length l.self.window ≡ 0;
}

abbrev pub decreases-loop-self : goal.decreases-loop-self
decreases-loop-self g l = l.self.size - asked l.self
