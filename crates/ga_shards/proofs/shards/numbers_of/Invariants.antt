use Rattle.std.proofs.Common.{◌≡◌, ◌≤◌, length, map, take}
use Rattle.ga_shards.specs.Steps.{number_of, shard_at}
use Rattle.ga_shards.proofs.shards.numbers_of.Given as goal

abbrev pub invariant-loop-item : goal.invariant-loop-item
invariant-loop-item g l = record {
  within : l.item-index ≤ length l.items;
  numbers : l.numbers.items ≡ map (number_of g.T.PartialEq.eq (shard_at g.T.Hash.hash_input (length l.parts)) l.parts) (take l.item-index l.items);
}
