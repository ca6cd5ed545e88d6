use Rattle.std.proofs.Common.{ℕ, ◌+◌, ◌-◌, ◌≤◌, List, cond}
use Rattle.ga_codec.specs.Pieces.{is_full}
use Rattle.ga_store.specs.Steps.Bodies.{HasRead}
use Rattle.ga_store.specs.Steps.Stream.{IsOf, Took, asked, left}
use Rattle.ga_store.proofs.body_reading.read_rows.Given as goal

abbrev pub invariant-loop-disk : goal.invariant-loop-disk
invariant-loop-disk g l = record {
  taken : List ℕ;
  took : Took (g.D.Disk.view l.initial.disk) (g.D.Disk.view l.disk) (g.D.Disk.images l.initial.disk) (g.D.Disk.images l.disk) l.initial.stream l.stream taken;
  has : HasRead l.initial.body l.body taken;
  of : IsOf l.stream (g.D.Disk.view l.disk).seen;
  room : l.body.left + 32 ≤ left l.stream;
}

abbrev pub decreases-loop-disk : goal.decreases-loop-disk
decreases-loop-disk g l = cond (is_full l.body.reader) 0 (1 + (l.stream.size - asked l.stream))
