use Rattle.std.proofs.Common.{◌≡◌, ℕ, [], get_or, map}
use Rattle.ga_numbers.proofs.shard_merge.lone_shards.Given as goal

abbrev pub invariant-loop-known : goal.invariant-loop-known
invariant-loop-known l = record {
  shards : map (λ m. m.known) l.merges.items ≡ l.yielded;
  alone : (s : ℕ) → get_or (map (λ m. m.more.items) l.merges.items) s [] ≡ [];
}
