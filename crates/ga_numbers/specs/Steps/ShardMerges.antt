-- What a shard is with which those of others are merged.
use Rattle.std.specs.Prelude.{ℕ, List, [], ◌∷◌, ◌++◌, map}
use Rattle.ga_numbers.specs.NotedNumbers.{AreNotedInTurn}
use Rattle.ga_numbers.specs.Steps.ShardRows.{is_same_row, remapped_each}
use Rattle.ga_numbers.specs.declared.shard_merge.ShardMerge.{ShardMerge}
use Rattle.ga_numbers.specs.declared.shard_merge.MergedShard.{MergedShard}
use Rattle.ga_numbers.specs.declared.shard_row.ShardRow.{ShardRow}

-- the rows of the others, whose prefixes have these numbers, were noted in the shard, other by other, and stand there
abbrev pub MergesShard : List (List ℕ) → ShardMerge → MergedShard → Type 0
MergesShard prefixes merge merged = AreNotedInTurn is_same_row (remapped_each prefixes merge.more.items) (map (λ l. l.items) merged.local_maps.items) merge.known merged.known

-- the shards of others that are merged into each shard, with those of one more
abbrev pub with_others : List (List (List ShardRow)) → List (List ShardRow) → List (List (List ShardRow))
with_others [] shards = []
with_others (more ∷ merges) [] = []
with_others (more ∷ merges) (shard ∷ shards) = (more ++ shard ∷ []) ∷ with_others merges shards
