use Rattle.std.proofs.Common.{◌≡◌, ◌++◌, take}
use Rattle.ga_dbtool.proofs.merging.append.Given as goal

abbrev pub invariant-loop-entry : goal.invariant-loop-entry
invariant-loop-entry l = l.entries ≡ l.initial.entries ++ take l.entry-index l.more
