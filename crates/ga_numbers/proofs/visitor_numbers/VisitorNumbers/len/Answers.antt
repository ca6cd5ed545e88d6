use Rattle.std.proofs.Common.{subst}
use Rattle.std.specs.List.{IsDistinct}
use Rattle.ga_base.specs.Orders.{is_same_visitor}
use Rattle.ga_numbers.specs.Steps.Kept.{no_row}
use Rattle.ga_numbers.specs.Steps.ShardRows.{is_same_row}
use Rattle.ga_numbers.specs.Steps.VisitorRows.{IsAgent, visitor_at}
use Rattle.ga_numbers.proofs.Prefixed.{different-items}
use Rattle.ga_numbers.proofs.Prefixings.{makes-visitors}
use Rattle.ga_numbers.proofs.visitor_numbers.VisitorNumbers.len.Goals as goal

pub returns-clause-distinct : goal.returns-clause-distinct
returns-clause-distinct c =
    let inside = c.self.inside in
    subst (IsDistinct is_same_visitor) c.self.view_is
    (different-items no_row is_same_row is_same_visitor IsAgent visitor_at makes-visitors inside.agents inside.rows c.self.invariant.different c.self.invariant.plain c.self.invariant.prefixed c.len.ensures.distinct)
