use Rattle.std.proofs.Common.{◌≡◌, ◌≤◌, true}
use Rattle.ga_storing_tests.proofs.codec.spells_by_and_by.Given as goal

abbrev pub invariant-loop-end : goal.invariant-loop-end
invariant-loop-end l = record { kind : l.reader.is_snapshot ≡ true; within : l.read ≤ l.end }
