use Rattle.std.proofs.Common.{◌≡◌, ◌≤◌, [], length, take}
use Rattle.std.specs.Prelude.{sum_by}
use Rattle.ga_shards.specs.Steps.{all_noted, all_of, shard_at, those_of}
use Rattle.ga_shards.proofs.shards.items_of_shard.Given as goal

abbrev pub invariant-loop-dictionary : goal.invariant-loop-dictionary
invariant-loop-dictionary g l = record {
  within : l.dictionary-index ≤ length l.dictionaries;
  noted : l.known ≡ all_noted g.T.PartialEq.eq [] (those_of (shard_at g.T.Hash.hash_input l.shards) l.shard (all_of (take l.dictionary-index l.dictionaries)));
  len : length l.known ≤ sum_by (λ items. length items) (take l.dictionary-index l.dictionaries);
}
