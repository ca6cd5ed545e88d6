use Rattle.std.proofs.Common.{◌≡◌, ℕ, ◌+◌, ◌++◌, max, length}
use Rattle.std.specs.List.{flat_map, sum_by}
use Rattle.std.specs.Vec.Iter.{into_iter_items}
use Rattle.ga_counts.specs.Counts.{maximum_at, tally_at}
use Rattle.ga_counts.specs.Greatest.{greatest_by}
use Rattle.ga_pool.proofs.filling.join_all.Given as goal

abbrev pub invariant-loop-put : goal.invariant-loop-put
invariant-loop-put l = record {
  count_table : l.count_seat.table ≡ l.counts.table;
  pair_table : l.pair_seat.table ≡ l.pairs.table;
  count_share : l.count_seat.view.share ≡ l.initial.count_seat.view.share + length l.yielded;
  pair_share : l.pair_seat.claims.share ≡ l.initial.pair_seat.claims.share + length l.yielded;
  sums : (word : ℕ) → tally_at word l.count_seat.view ≡ tally_at word l.initial.count_seat.view + sum_by (λ put. tally_at word put.counts.view) l.yielded;
  maxima : (place : ℕ) → maximum_at place l.count_seat.view ≡ max (maximum_at place l.initial.count_seat.view) (greatest_by (λ put. maximum_at place put.counts.view) l.yielded);
  asked : l.pair_seat.claims.asked ≡ l.initial.pair_seat.claims.asked ++ flat_map (λ put. put.pairs.claims.asked) l.yielded;
  rest : l.yielded ++ into_iter_items l.put-iterator ≡ l.fn.puts.items;
}
