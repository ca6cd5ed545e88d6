use Rattle.std.proofs.Common.{◌≤◌}
use Rattle.ga_tallies.proofs.weighing.parts_by.Given as goal

abbrev pub invariant-loop-part : goal.invariant-loop-part
invariant-loop-part l = l.first ≤ l.many
