use Rattle.std.proofs.Common.{◌≡◌, ◌++◌, map}
use Rattle.std.specs.Vec.Iter.{into_iter_items}
use Rattle.ga_tallies.specs.Steps.Absorbing.{counts_in, counts_seen}
use Rattle.ga_tallies.proofs.tally_columns.into_columns.Given as goal

-- the columns of the tallies so far
abbrev pub invariant-loop-tally : goal.invariant-loop-tally
invariant-loop-tally l = record {
  rest : l.yielded ++ into_iter_items l.tally-iterator ≡ l.fn.tallies.items;
  keys : l.apart.keys.items ≡ map (λ tally. tally.keys) l.yielded;
  visitors : l.apart.visitors.items ≡ map (λ tally. tally.visitors) l.yielded;
  counts : map counts_in l.apart.counts.items ≡ map counts_seen l.yielded;
}
