use Rattle.std.proofs.Common.{◌≡◌, ◌++◌, length, map}
use Rattle.std.specs.Vec.Iter.{into_iter_items}
use Rattle.ga_numbers.specs.Steps.ShardMerges.{with_others}
use Rattle.ga_numbers.proofs.shard_merge.with_other.Given as goal

-- the merges so far, and what those that are left make, are what all make
abbrev pub invariant-loop-merge : goal.invariant-loop-merge
invariant-loop-merge l = record {
  known : map (λ m. m.known) l.all.items ++ map (λ m. m.known) (into_iter_items l.merge-iterator) ≡ map (λ m. m.known) l.fn.merges.items;
  more : map (λ m. m.more.items) l.all.items ++ with_others (map (λ m. m.more.items) (into_iter_items l.merge-iterator)) (into_iter_items l.shards)
      ≡ with_others (map (λ m. m.more.items) l.fn.merges.items) l.fn.other.items;
  many : length (into_iter_items l.merge-iterator) ≡ length (into_iter_items l.shards);
}
