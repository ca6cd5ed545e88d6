use Rattle.std.proofs.Common.{map}
use Rattle.std.specs.List.{AllZip}
use Rattle.ga_numbers.specs.Steps.ShardMerges.{MergesShard}
use Rattle.ga_numbers.proofs.shard_merge.merge_group.Given as goal

abbrev pub invariant-loop-merge : goal.invariant-loop-merge
invariant-loop-merge l = AllZip (MergesShard (map (λ v. v.items) l.fn.prefixes)) l.yielded l.all.items
