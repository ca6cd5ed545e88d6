use Rattle.std.proofs.Common.{◌≡◌, ◌≤◌, false}
use Rattle.ga_storing_tests.proofs.codec.spells_record_by_and_by.Given as goal

abbrev pub invariant-loop-end : goal.invariant-loop-end
invariant-loop-end l = record { kind : l.reader.is_snapshot ≡ false; within : l.read ≤ l.end }
