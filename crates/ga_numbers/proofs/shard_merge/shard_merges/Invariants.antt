use Rattle.std.proofs.Common.{◌≡◌, ◌<◌, ℕ, [], get_or, length, map}
use Rattle.std.specs.List.{All}
use Rattle.std.specs.Vec.Iter.{into_iter_items}
use Rattle.ga_numbers.specs.Steps.Kept.{shards_at}
use Rattle.ga_numbers.proofs.shard_merge.shard_merges.Given as goal

-- each shard is merged with those of the others so far
abbrev pub invariant-loop-other : goal.invariant-loop-other
invariant-loop-other l = record {
  known : map (λ m. m.known) l.merges.items ≡ l.fn.shards.items;
  more : (s : ℕ) → s < length l.fn.shards.items → get_or (map (λ m. m.more.items) l.merges.items) s [] ≡ shards_at s (map (λ o. o.items) l.yielded);
  long : All (λ o. length o.items ≡ length l.fn.shards.items) (into_iter_items l.other-iterator);
}
