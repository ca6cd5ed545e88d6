use Rattle.std.proofs.Common.{◌≡◌, List, map}
use Rattle.std.specs.Prelude.{Ok}
use Rattle.std.specs.Global.{Vec}
use Rattle.std.specs.List.{flat_map}
use Rattle.ga_numbers.specs.declared.shard_merge.MergedShard.{MergedShard}
use Rattle.ga_numbers.proofs.shard_merge.all_shards.Given as goal

abbrev pub invariant-loop-result : goal.invariant-loop-result
invariant-loop-result l = (parts : List (Vec MergedShard)) × (l.yielded ≡ map Ok parts) × (l.all.items ≡ flat_map (λ part. part.items) parts)
