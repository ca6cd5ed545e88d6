use Rattle.ga_numbers.proofs.Keeping.{nothing-kept}
use Rattle.ga_numbers.proofs.sharded_rows.ShardedRows.new.Goals as goal

pub invariant_of-result : goal.invariant_of-result
invariant_of-result c = nothing-kept _ _ _ (λ l. l.items) c.new.ensures.items c.new-2.ensures.items c.new-3.ensures.items
