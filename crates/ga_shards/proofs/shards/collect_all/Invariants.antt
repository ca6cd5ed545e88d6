use Rattle.std.proofs.Common.{◌≡◌, map}
use Rattle.std.specs.Prelude.{Ok}
use Rattle.ga_shards.proofs.shards.collect_all.Given as goal

abbrev pub invariant-loop-result : goal.invariant-loop-result
invariant-loop-result g l = l.yielded ≡ map Ok l.all.items
