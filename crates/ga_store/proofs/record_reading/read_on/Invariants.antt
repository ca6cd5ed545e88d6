use Rattle.std.proofs.Common.{ℕ, List}
use Rattle.ga_store.specs.Steps.Stream.{IsOf, Took, left}
use Rattle.ga_store.proofs.RecordLemmas.{OnFrom}
use Rattle.ga_store.proofs.record_reading.read_on.Given as goal

abbrev pub invariant-loop-growing : goal.invariant-loop-growing
invariant-loop-growing g l = record {
  taken : List ℕ;
  took : Took (g.D.Disk.view l.initial.disk) (g.D.Disk.view l.disk) (g.D.Disk.images l.initial.disk) (g.D.Disk.images l.disk) l.initial.stream l.stream taken;
  on : OnFrom l.number l.stream l.initial.growing l.growing taken;
  of : IsOf l.stream (g.D.Disk.view l.disk).seen;
}

abbrev pub decreases-loop-growing : goal.decreases-loop-growing
decreases-loop-growing g l = left l.stream
