use Rattle.std.proofs.Common.{◌≡◌, take}
use Rattle.ga_numbers.proofs.visitor_numbers.VisitorNumbers.items.Given as goal

-- the visitors so far
abbrev pub invariant-loop-number : goal.invariant-loop-number
invariant-loop-number l = l.visitors.items ≡ take l.number l.self
