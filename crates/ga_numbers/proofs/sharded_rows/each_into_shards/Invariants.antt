use Rattle.std.proofs.Common.{map}
use Rattle.ga_numbers.specs.Steps.Kept.{AreOpened}
use Rattle.ga_numbers.specs.Steps.Three.{AllThree}
use Rattle.ga_numbers.proofs.sharded_rows.each_into_shards.Given as goal

abbrev pub invariant-loop-rows : goal.invariant-loop-rows
invariant-loop-rows l = AllThree AreOpened l.yielded (map (λ s. s.items) l.shards.items) (map (λ o. o.items) l.orders.items)
