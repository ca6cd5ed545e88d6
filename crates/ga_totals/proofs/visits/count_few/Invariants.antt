use Rattle.std.proofs.Common.{◌≡◌, eqb, take}
use Rattle.std.specs.Set.{distinct_count}
use Rattle.ga_totals.proofs.visits.count_few.Given as goal

abbrev pub invariant-loop-place : goal.invariant-loop-place
invariant-loop-place l = l.count ≡ distinct_count eqb (take l.place l.row)
