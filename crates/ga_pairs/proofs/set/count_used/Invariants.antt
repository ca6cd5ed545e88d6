use Rattle.std.proofs.Common.{◌≡◌, take}
use Rattle.std.specs.Slots.{slots_items}
use Rattle.ga_pairs.specs.Pairs.{used}
use Rattle.ga_pairs.proofs.set.count_used.Given as goal

abbrev pub invariant-loop-at : goal.invariant-loop-at
invariant-loop-at l = l.pairs ≡ used (take l.at (slots_items l.closed.words))
