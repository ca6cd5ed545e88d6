use Rattle.std.proofs.Common.{◌≡◌, ◌++◌, map, take}
use Rattle.ga_tallies.specs.Tallies.{pair_of, row_pairs}
use Rattle.ga_tallies.proofs.pairs.push_row.Given as goal

abbrev pub invariant-loop-visitor : goal.invariant-loop-visitor
invariant-loop-visitor l = map pair_of l.pairs.items ≡ map pair_of l.fn.pairs.items ++ row_pairs l.key (take l.visitor-index l.row)
