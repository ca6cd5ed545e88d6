use Rattle.std.proofs.Common.{◌≡◌, map, take}
use Rattle.ga_tallies.specs.Tallies.{lists_in, pair_of, pairs_in}
use Rattle.ga_tallies.proofs.pairs.pairs_of.Given as goal

abbrev pub invariant-loop-key : goal.invariant-loop-key
invariant-loop-key l = map pair_of l.pairs.items ≡ pairs_in (lists_in (take l.key l.rows))
