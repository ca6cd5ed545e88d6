use Rattle.std.proofs.Common.{map}
use Rattle.ga_numbers.specs.NotedNumbers.{AreNotedInTurn}
use Rattle.ga_numbers.proofs.noting.note_each.Given as goal

-- the lists so far are noted
abbrev pub invariant-loop-items : goal.invariant-loop-items
invariant-loop-items g l = AreNotedInTurn g.T.PartialEq.eq l.yielded (map (λ n. n.items) l.numbers.items) l.initial.known l.known
