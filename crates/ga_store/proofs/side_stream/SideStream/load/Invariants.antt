use Rattle.std.proofs.Common.{◌-◌, []}
use Rattle.ga_store.specs.Steps.Stream.{Took, asked}
use Rattle.ga_store.proofs.side_stream.SideStream.load.Given as goal

abbrev pub invariant-loop-self : goal.invariant-loop-self
invariant-loop-self g l = Took (g.D.Disk.view l.initial.disk) (g.D.Disk.view l.disk) (g.D.Disk.images l.initial.disk) (g.D.Disk.images l.disk) l.initial.self l.self []

abbrev pub decreases-loop-self : goal.decreases-loop-self
decreases-loop-self g l = l.self.size - asked l.self
