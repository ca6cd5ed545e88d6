use Rattle.std.proofs.Common.{◌≡◌, ◌∙◌, sym, subst, arith, take_all}
use Rattle.std.specs.List.{IsDistinct}
use Rattle.ga_base.specs.Orders.{is_same_visitor}
use Rattle.ga_numbers.proofs.Giving.{next-item}
use Rattle.ga_numbers.proofs.visitor_numbers.VisitorNumbers.items.Goals as goal

pub loop-number-preserved : goal.loop-number-preserved
loop-number-preserved c = c.in_ok-push.ensures.items ∙ next-item c.args.self.now c.loop-number.visitors.items c.loop-number.number c.in_ok-get.field-0 (c.in_ok-get.ensures) c.loop-number.invariant

pub returns-clause-distinct : goal.returns-clause-distinct
returns-clause-distinct c =
    let all : c.loop-number.visitors.items ≡ c.args.self.now = c.loop-number.invariant ∙ take_all c.loop-number.number c.args.self.now (omega (arith, c.loop-number-test.false, c.len-many.ensures.value)) in
    subst (IsDistinct is_same_visitor) (sym all) c.len-many.ensures.distinct
