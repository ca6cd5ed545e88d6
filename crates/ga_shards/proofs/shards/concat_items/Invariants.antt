use Rattle.std.proofs.Common.{◌≡◌}
use Rattle.ga_shards.specs.Steps.{all_of}
use Rattle.ga_shards.proofs.shards.concat_items.Given as goal

abbrev pub invariant-loop-part : goal.invariant-loop-part
invariant-loop-part g l = l.all.items ≡ all_of l.yielded
