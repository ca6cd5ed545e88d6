use Rattle.std.proofs.Common.{◌≡◌}
use Rattle.std.specs.List.{IsDistinct}
use Rattle.ga_shards.specs.Steps.{all_noted}
use Rattle.ga_numbers.specs.NotedNumbers.{places_of}
use Rattle.ga_numbers.proofs.noting.note_all.Given as goal

-- the items so far are noted
abbrev pub invariant-loop-item : goal.invariant-loop-item
invariant-loop-item g l = record {
  numbers : l.numbers.items ≡ places_of g.T.PartialEq.eq l.initial.known l.yielded;
  noted : l.known ≡ all_noted g.T.PartialEq.eq l.initial.known l.yielded;
  distinct : IsDistinct g.T.PartialEq.eq l.initial.known → IsDistinct g.T.PartialEq.eq l.known;
}
