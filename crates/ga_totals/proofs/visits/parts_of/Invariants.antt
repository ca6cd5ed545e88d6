use Rattle.std.proofs.Common.{◌≤◌}
use Rattle.ga_totals.proofs.visits.parts_of.Given as goal

abbrev pub invariant-loop-part : goal.invariant-loop-part
invariant-loop-part l = l.first ≤ l.keys
