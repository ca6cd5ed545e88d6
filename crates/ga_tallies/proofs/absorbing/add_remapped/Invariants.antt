use Rattle.std.proofs.Common.{◌≡◌, ◌++◌, map}
use Rattle.std.specs.Vec.Iter.{into_iter_items}
use Rattle.ga_tallies.specs.Steps.Absorbing.{AddsSuch, IsRemapped, remapped_seen, sums_remapped}
use Rattle.ga_tallies.proofs.absorbing.add_remapped.Given as goal

-- what the remapped tallies so far bring was added
abbrev pub invariant-loop-remapped : goal.invariant-loop-remapped
invariant-loop-remapped g l = record {
  rest : l.yielded ++ into_iter_items l.remapped-iterator ≡ l.fn.remapped_tallies.items;
  sums : l.sums.items ≡ sums_remapped (map remapped_seen l.yielded) l.fn.sums.items;
  pairs : AddsSuch (IsRemapped (map remapped_seen l.yielded)) l.fn.pairs l.pairs;
}
