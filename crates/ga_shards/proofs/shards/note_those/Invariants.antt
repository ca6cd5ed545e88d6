use Rattle.std.proofs.Common.{◌≡◌, ◌≤◌, ◌+◌, length, take}
use Rattle.ga_shards.specs.Steps.{all_noted, shard_at, those_of}
use Rattle.ga_shards.proofs.shards.note_those.Given as goal

abbrev pub invariant-loop-item : goal.invariant-loop-item
invariant-loop-item g l = record {
  within : l.item-index ≤ length l.items;
  noted : l.known ≡ all_noted g.T.PartialEq.eq l.initial.known (those_of (shard_at g.T.Hash.hash_input l.shards) l.shard (take l.item-index l.items));
  len : length l.known ≤ length l.initial.known + l.item-index;
}
