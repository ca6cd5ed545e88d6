use Rattle.std.proofs.Common.{[], List, subst, sym}
use Rattle.ga_numbers.specs.Steps.ShardRows.{AreRowsOf, is_same_row}
use Rattle.ga_numbers.specs.Steps.VisitorRows.{IsAgent}
use Rattle.ga_numbers.specs.declared.shard_row.ShardRow.{ShardRow}
use Rattle.ga_numbers.proofs.Agents.{no-agents}
use Rattle.ga_numbers.proofs.visitor_numbers.VisitorNumbers.new.Goals as goal

pub invariant_of-result : goal.invariant_of-result
invariant_of-result c =
    subst (λ (l : List ShardRow). AreRowsOf is_same_row IsAgent l c.new-2.result) (sym c.new.ensures)
    (subst (λ (l : List ShardRow). AreRowsOf is_same_row IsAgent [] l) (sym c.new-2.ensures) no-agents)
