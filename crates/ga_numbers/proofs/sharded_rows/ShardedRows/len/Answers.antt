use Rattle.std.proofs.Common.{subst}
use Rattle.std.specs.List.{IsDistinct}
use Rattle.ga_numbers.specs.Steps.ShardRows.{is_same_row}
use Rattle.ga_numbers.proofs.Keeping.{different-rows}
use Rattle.ga_numbers.proofs.sharded_rows.ShardedRows.len.Goals as goal

pub returns-clause-distinct : goal.returns-clause-distinct
returns-clause-distinct c =
    let inside = c.self.inside in
    subst (IsDistinct is_same_row) c.self.view_is (different-rows inside.shards.items _ inside.places.items c.self.invariant.sharded c.self.invariant.named)
