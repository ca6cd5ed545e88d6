use Rattle.std.proofs.Common.{◌≡◌, ◌++◌, List, length, map}
use Rattle.std.specs.Vec.Iter.{into_iter_items}
use Rattle.ga_numbers.specs.Steps.Kept.{AreNamed, AreShards, StandEach, merged_places, rows_in}
use Rattle.ga_numbers.specs.NotedNumbers.{AreNotedInTurn}
use Rattle.ga_numbers.specs.Steps.ShardRows.{is_same_row}
use Rattle.ga_numbers.specs.declared.shard_row.ShardRow.{ShardRow}
use Rattle.ga_numbers.proofs.assigning.assign_each.Given as goal

-- the rows of the others so far have their numbers
abbrev pub invariant-loop-order : goal.invariant-loop-order
invariant-loop-order l =
    let local_maps = map (λ shard. map (λ v. v.items) shard.items) l.local_maps in
    let orders = map (λ o. o.items) l.fn.orders.items in
    record {
      many : length l.numbers.items ≡ length l.initial.numbers.items;
      rest : l.yielded ++ into_iter_items l.order-iterator ≡ l.fn.orders.items;
      long : length l.given.items ≡ length l.yielded;
      named : (shards : List (List ShardRow)) → AreShards shards → AreNamed shards (map (λ v. v.items) l.initial.numbers.items) l.initial.places.items
          → StandEach shards local_maps orders → AreNamed shards (map (λ v. v.items) l.numbers.items) l.places.items;
      noted : (shards : List (List ShardRow)) → AreShards shards → AreNamed shards (map (λ v. v.items) l.initial.numbers.items) l.initial.places.items
          → StandEach shards local_maps orders
          → AreNotedInTurn is_same_row (map (rows_in shards) (merged_places local_maps 0 (map (λ o. o.items) l.yielded))) (map (λ v. v.items) l.given.items)
          (rows_in shards l.initial.places.items) (rows_in shards l.places.items);
    }
