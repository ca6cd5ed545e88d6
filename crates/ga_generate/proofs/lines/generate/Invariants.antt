use Rattle.std.proofs.Common.{◌≡◌}
use Rattle.ga_generate.specs.Lines.{generated}
use Rattle.ga_generate.proofs.lines.generate.Given as goal

abbrev pub invariant-loop-i : goal.invariant-loop-i
invariant-loop-i l = l.lines.items ≡ generated l.i
