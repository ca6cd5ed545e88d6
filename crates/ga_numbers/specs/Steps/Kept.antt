-- How rows are kept: each in the shard of its day and its text, beside the place where the row of each number stands.
use Rattle.std.specs.Prelude.{◌≡◌, ◌<◌, ◌+◌, ◌^◌, ℕ, List, [], ◌∷◌, Some, length, map, slice_get, slice_index_or}
use Rattle.std.specs.List.{All, IsDistinct}
use Rattle.ga_shards.specs.Numbers.{item_of}
use Rattle.ga_numbers.specs.NotedNumbers.{AreNotedInTurn}
use Rattle.ga_numbers.specs.Steps.ShardRows.{is_same_row, remapped_each, shard_at}
use Rattle.ga_numbers.specs.declared.place.Place.{Place}
use Rattle.ga_numbers.specs.declared.shard_row.ShardRow.{ShardRow}

-- what is read where no row stands, which is at no place of a row
abbrev pub no_row : ShardRow
no_row = record { prefix = 0; date = 0; text = [] }

-- the row that is at a place
abbrev pub row_at : List (List ShardRow) → Place → ShardRow
row_at shards p = slice_index_or (slice_index_or shards p.shard []) p.local no_row

-- a row is at a place
abbrev pub IsRowAt : List (List ShardRow) → Place → Type 0
IsRowAt shards p = p.local < length (slice_index_or shards p.shard [])

-- and it is this one
abbrev pub StandsAt : List (List ShardRow) → Place → ShardRow → Type 0
StandsAt shards p row = item_of shards p.shard p.local ≡ Some row

-- the rows in the order of these places
abbrev pub rows_in : List (List ShardRow) → List Place → List ShardRow
rows_in shards places = map (row_at shards) places

-- shards of different rows
pub record AreShards (shards : List (List ShardRow)) : Type 0 where
  pub many : 0 < length shards → length shards ≡ 64
  pub different : (s : ℕ) → IsDistinct is_same_row (slice_index_or shards s [])
  -- each row is in the shard of its day and its text
  pub own : (s : ℕ) → All (λ (row : ShardRow). shard_at row ≡ s) (slice_index_or shards s [])

-- a row is at each place, and the shards know its number
pub record AreNamed (shards : List (List ShardRow)) (numbers : List (List ℕ)) (places : List Place) : Type 0 where
  pub many : length numbers ≡ length shards
  pub few : length places < 2 ^ 32
  pub rows : (n : ℕ) (p : Place) → slice_get places n ≡ Some p → IsRowAt shards p
  pub known : (n : ℕ) (p : Place) → slice_get places n ≡ Some p → item_of numbers p.shard p.local ≡ Some n

-- both
pub record AreKept (shards : List (List ShardRow)) (numbers : List (List ℕ)) (places : List Place) : Type 0 where
  pub sharded : AreShards shards
  pub named : AreNamed shards numbers places

-- each row stands where it stood
pub record Grows (old new : List (List ShardRow)) : Type 0 where
  pub many : length new ≡ length old
  pub kept : (s l : ℕ) (row : ShardRow) → item_of old s l ≡ Some row → item_of new s l ≡ Some row

-- all the shards, in which the rows stand at these places, in their order
pub record AreOpened (rows : List ShardRow) (shards : List (List ShardRow)) (order : List Place) : Type 0 where
  pub whole : length shards ≡ 64
  pub sharded : AreShards shards
  pub stand : (n : ℕ) (p : Place) → slice_get order n ≡ Some p → IsRowAt shards p
  pub are : rows_in shards order ≡ rows

-- the shard at this place of each of the others
abbrev pub shards_at : ℕ → List (List (List ShardRow)) → List (List ShardRow)
shards_at s others = map (λ shards. slice_index_or shards s []) others

-- the rows of the shards of others were noted, other by other, each in the shard at its place, and stand there
pub record MergesShards (prefixes : List (List ℕ)) (shards : List (List ShardRow)) (others : List (List (List ShardRow))) (new : List (List ShardRow)) (local_maps : List (List (List ℕ))) : Type 0 where
  pub many : length new ≡ length shards
  pub each : (s : ℕ) → s < length shards
      → AreNotedInTurn is_same_row (remapped_each prefixes (shards_at s others)) (slice_index_or local_maps s []) (slice_index_or shards s []) (slice_index_or new s [])

-- where the row at a place of one of the others stands then
abbrev pub merged_place : List (List (List ℕ)) → ℕ → Place → Place
merged_place local_maps which p = record { shard = p.shard; local = slice_index_or (slice_index_or (slice_index_or local_maps p.shard []) which []) p.local 0 }

-- the same of the places of each of the others, of which the first is this one
abbrev pub merged_places : List (List (List ℕ)) → ℕ → List (List Place) → List (List Place)
merged_places local_maps first [] = []
merged_places local_maps first (order ∷ orders) = map (merged_place local_maps first) order ∷ merged_places local_maps (first + 1) orders

-- rows stand at all of those
abbrev pub StandEach : List (List ShardRow) → List (List (List ℕ)) → List (List Place) → Type 0
StandEach shards local_maps orders = All (All (IsRowAt shards)) (merged_places local_maps 0 orders)
