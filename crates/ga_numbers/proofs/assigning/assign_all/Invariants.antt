use Rattle.std.proofs.Common.{◌≡◌, List, length, map, take}
use Rattle.std.specs.List.{All}
use Rattle.ga_shards.specs.Steps.{all_noted}
use Rattle.ga_numbers.specs.Steps.Kept.{AreNamed, AreShards, IsRowAt, merged_place, rows_in}
use Rattle.ga_numbers.specs.NotedNumbers.{places_of}
use Rattle.ga_numbers.specs.Steps.ShardRows.{is_same_row}
use Rattle.ga_numbers.specs.declared.shard_row.ShardRow.{ShardRow}
use Rattle.ga_numbers.proofs.assigning.assign_all.Given as goal

-- the rows so far have their numbers
abbrev pub invariant-loop-place : goal.invariant-loop-place
invariant-loop-place l =
    let merged = merged_place (map (λ shard. map (λ v. v.items) shard.items) l.local_maps) l.which in
    record {
      many : length l.numbers.items ≡ length l.initial.numbers.items;
      named : (shards : List (List ShardRow)) → AreShards shards → AreNamed shards (map (λ v. v.items) l.initial.numbers.items) l.initial.places.items
          → All (IsRowAt shards) (map merged l.order) → AreNamed shards (map (λ v. v.items) l.numbers.items) l.places.items;
      given : (shards : List (List ShardRow)) → AreShards shards → AreNamed shards (map (λ v. v.items) l.initial.numbers.items) l.initial.places.items
          → All (IsRowAt shards) (map merged l.order)
          → l.given.items ≡ places_of is_same_row (rows_in shards l.initial.places.items) (rows_in shards (map merged (take l.place-index l.order)));
      noted : (shards : List (List ShardRow)) → AreShards shards → AreNamed shards (map (λ v. v.items) l.initial.numbers.items) l.initial.places.items
          → All (IsRowAt shards) (map merged l.order)
          → rows_in shards l.places.items ≡ all_noted is_same_row (rows_in shards l.initial.places.items) (rows_in shards (map merged (take l.place-index l.order)));
    }
