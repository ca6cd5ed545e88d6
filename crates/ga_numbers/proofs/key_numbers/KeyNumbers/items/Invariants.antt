use Rattle.std.proofs.Common.{◌≡◌, take}
use Rattle.ga_numbers.proofs.key_numbers.KeyNumbers.items.Given as goal

-- the keys so far
abbrev pub invariant-loop-number : goal.invariant-loop-number
invariant-loop-number l = l.keys.items ≡ take l.number l.self
