use Rattle.std.proofs.Common.{◌≡◌, map}
use Rattle.ga_numbers.proofs.shard_merge.shards_and_maps.Given as goal

abbrev pub invariant-loop-merged : goal.invariant-loop-merged
invariant-loop-merged l = record {
  known : l.shards.items ≡ map (λ merged. merged.known) l.yielded;
  stand : map (λ shard. map (λ v. v.items) shard.items) l.local_maps.items ≡ map (λ merged. map (λ v. v.items) merged.local_maps.items) l.yielded;
}
