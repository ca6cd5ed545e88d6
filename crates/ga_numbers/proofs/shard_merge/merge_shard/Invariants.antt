use Rattle.std.proofs.Common.{map}
use Rattle.ga_numbers.specs.NotedNumbers.{AreNotedInTurn}
use Rattle.ga_numbers.specs.Steps.ShardRows.{is_same_row, remapped_each}
use Rattle.ga_numbers.proofs.shard_merge.merge_shard.Given as goal

-- the rows of the others so far are noted
abbrev pub invariant-loop-rows : goal.invariant-loop-rows
invariant-loop-rows l = AreNotedInTurn is_same_row (remapped_each (map (λ v. v.items) l.fn.prefixes) l.yielded) (map (λ v. v.items) l.local_maps.items) l.fn.merge.known l.known
