use Rattle.std.proofs.Common.{◌≡◌, ◌∙◌, Some, ap, sym, subst, arith, take_all}
use Rattle.std.specs.List.{IsDistinct}
use Rattle.ga_base.specs.Orders.{is_same_key}
use Rattle.ga_numbers.proofs.Giving.{next-item}
use Rattle.ga_numbers.proofs.key_numbers.KeyNumbers.items.Goals as goal

pub loop-number-preserved : goal.loop-number-preserved
loop-number-preserved c = c.in_ok-push.ensures.items ∙ next-item c.args.self.now c.loop-number.keys.items c.loop-number.number c.in_ok-to_key.field-0 (c.get.ensures ∙ ap Some (sym c.in_ok-to_key.ensures)) c.loop-number.invariant

pub returns-clause-distinct : goal.returns-clause-distinct
returns-clause-distinct c =
    let all : c.loop-number.keys.items ≡ c.args.self.now = c.loop-number.invariant ∙ take_all c.loop-number.number c.args.self.now (omega (arith, c.loop-number-test.false, c.len-many.ensures.value)) in
    subst (IsDistinct is_same_key) (sym all) c.len-many.ensures.distinct
