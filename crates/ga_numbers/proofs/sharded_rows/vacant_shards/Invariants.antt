use Rattle.std.proofs.Common.{◌≡◌, ℕ, [], length, get_or}
use Rattle.ga_numbers.proofs.sharded_rows.vacant_shards.Given as goal

abbrev pub invariant-loop : goal.invariant-loop
invariant-loop l = record {
  many : length l.shards.items ≡ l.counter;
  each : (s : ℕ) → get_or l.shards.items s [] ≡ [];
}
