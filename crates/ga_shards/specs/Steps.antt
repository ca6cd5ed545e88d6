-- How items come to their numbers, which only inner contracts and proofs say: each shard is numbered by itself, and then shifted.
use Rattle.std.specs.Prelude.{◌≡◌, ◌==◌, ◌%◌, ◌+◌, ◌<◌, ℕ, Bool, true, List, [], length, take, map, filter, fold, sum_by, slice_index, slice_index_or, ◌≤◌, ◌^◌}
use Rattle.std.specs.List.{All, flat_map, list_any}
use Rattle.std.specs.Hash.FoldHasher as hashes
use Rattle.ga_shards.specs.Numbers.{NumberingSeen, noted, place_of}

-- in which of this many shards an item is, by what it feeds
abbrev pub shard_at : {T : Type 0} → (T → List (List ℕ)) → ℕ → T → ℕ
shard_at input shards item = hashes.finish (fold hashes.write hashes.initial (input item)) % shards

-- the list after items were noted, one after the other
abbrev pub all_noted : {T : Type 0} → (T → T → Bool) → List T → List T → List T
all_noted eq items more = fold (noted eq) items more

-- all items of all lists
abbrev pub all_of : {T : Type 0} → List (List T) → List T
all_of lists = flat_map (λ items. items) lists

-- those of one shard
abbrev pub those_of : {T : Type 0} → (T → ℕ) → ℕ → List T → List T
those_of shard s items = filter (λ item. shard item == s) items

-- the number with which a shard begins: that of the items of the shards before it
abbrev pub start_of : {T : Type 0} → List (List T) → ℕ → ℕ
start_of shards s = sum_by (λ items. length items) (take s shards)

-- the items of the shard of an item
abbrev pub around : {T : Type 0} → (T → ℕ) → List (List T) → T → List T
around shard shards item = slice_index_or shards (shard item) []

-- the number of an item: that of its shard, and then its place there
abbrev pub number_of : {T : Type 0} → (T → T → Bool) → (T → ℕ) → List (List T) → T → ℕ
number_of eq shard shards item = start_of shards (shard item) + place_of eq (around shard shards item) item

-- the shards one after the other, with the number of each item
abbrev pub shifted : {T : Type 0} → (T → T → Bool) → (T → ℕ) → List (List T) → List (List T) → NumberingSeen T
shifted eq shard shards lists = record {
  items = all_of shards;
  numbers = map (λ items. map (number_of eq shard shards) items) lists;
}

-- these are the numbers with which the shards begin, and each item of the lists is in its shard
pub record AreNumbered {T : Type 0} (eq : T → T → Bool) (shard : T → ℕ) (shards : List (List T)) (begin : List ℕ) (lists : List (List T)) : Type 0 where
  pub some : (1 ≤ length shards) × (length shards < 2 ^ 32)
  pub fits : sum_by (λ items. length items) shards < 2 ^ 32
  pub many : length begin ≡ length shards
  pub starts : (s : ℕ) → s < length shards → slice_index begin s ≡ start_of shards s
  pub known : All (λ item. list_any (eq item) (around shard shards item) ≡ true) (all_of lists)

-- this many shards have the different items of the lists, each its own
pub record AreParts {T : Type 0} (eq : T → T → Bool) (shard : T → ℕ) (shards : ℕ) (lists parts : List (List T)) : Type 0 where
  pub some : 1 ≤ shards
  pub many : length parts ≡ shards
  pub each : (s : ℕ) → s < shards → slice_index_or parts s [] ≡ all_noted eq [] (those_of shard s (all_of lists))
