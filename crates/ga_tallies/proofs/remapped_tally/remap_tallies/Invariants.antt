use Rattle.std.proofs.Common.{◌≡◌, ◌++◌, length, map}
use Rattle.std.specs.Vec.Iter.{into_iter_items}
use Rattle.ga_tallies.specs.Steps.Absorbing.{counts_in, remapped_seen, remapped_with}
use Rattle.ga_tallies.proofs.remapped_tally.remap_tallies.Given as goal

-- the remapped tallies so far, and those of what is left
abbrev pub invariant-loop-counts : goal.invariant-loop-counts
invariant-loop-counts l = record {
  keys : length (into_iter_items l.keys) ≡ length (into_iter_items l.counts-iterator);
  visitors : length (into_iter_items l.visitors) ≡ length (into_iter_items l.counts-iterator);
  remapped_tallies : map remapped_seen l.remapped_tallies.items ++ remapped_with (map (λ n. n.items) (into_iter_items l.keys)) (map (λ n. n.items) (into_iter_items l.visitors)) (map counts_in (into_iter_items l.counts-iterator))
      ≡ remapped_with (map (λ n. n.items) l.fn.keys.items) (map (λ n. n.items) l.fn.visitors.items) (map counts_in l.fn.counts.items);
}
