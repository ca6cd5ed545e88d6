use Rattle.std.proofs.Common.{[], ◌∷◌, ◌++◌, map, sym, ap, ◌∙◌, arith}
use Rattle.std.proofs.lemmas.List.{map_more, take_all}
use Rattle.std.proofs.lemmas.Option.{get_or_from_slice_get}
use Rattle.ga_base.specs.declared.key.Key.{Key}
use Rattle.ga_numbers.specs.VisitorRefs.{key_prefixed}
use Rattle.ga_totals.proofs.key_panels.panels_of.Goals as goal

pub loop-number-init : goal.loop-number-init
loop-number-init c = c.in_ok-panels.ensures.items

pub loop-number-preserved : goal.loop-number-preserved
loop-number-preserved c =
    let keys = c.args.keys.now in
    let number = c.loop-number.number in
    let key = key_prefixed c.get.result in
    let stands = get_or_from_slice_get keys number key key c.get.ensures in
    c.in_ok-push.ensures.items
    ∙ (λ i. c.loop-number.invariant i ++ (sym stands i).panel ∷ [])
    ∙ sym (map_more (λ (key : Key). key.panel) keys number key (omega (arith, c.loop-number-test.true, c.len-number-end.ensures.value)))

pub returns : goal.returns
returns c = c.loop-number.invariant ∙ ap (map (λ (key : Key). key.panel)) (take_all c.loop-number.number c.args.keys.now (omega (arith, c.loop-number-test.false, c.len-number-end.ensures.value)))
