use Rattle.std.proofs.Common.{◌≡◌, map}
use Rattle.ga_shards.specs.Steps.{all_noted}
use Rattle.ga_numbers.specs.NotedNumbers.{places_of}
use Rattle.ga_numbers.specs.Steps.ShardRows.{is_same_row, remapped_by}
use Rattle.ga_numbers.proofs.shard_merge.note_rows.Given as goal

-- the rows so far are noted
abbrev pub invariant-loop-row : goal.invariant-loop-row
invariant-loop-row l = record {
  local_maps : l.local_maps.items ≡ places_of is_same_row l.initial.known (map (remapped_by l.fn.prefixes) l.yielded);
  noted : l.known ≡ all_noted is_same_row l.initial.known (map (remapped_by l.fn.prefixes) l.yielded);
}
