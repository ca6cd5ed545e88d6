use Rattle.std.proofs.Common.{◌+◌, ◌<◌, ◌∙◌, ℕ, get_or, length, set, subst, sym, take, arith}
use Rattle.std.proofs.lemmas.List.{length-set}
use Rattle.ga_base.specs.declared.panel.Panel.TheVariants.{Visitors}
use Rattle.ga_base.specs.Panels.{panel_number}
use Rattle.ga_totals.specs.Steps.Sources.{AreSizes}
use Rattle.ga_totals.proofs.Sizes.{number-below, size-more}
use Rattle.ga_totals.proofs.key_panels.sizes_of.Goals as goal

pub loop-panel-preserved : goal.loop-panel-preserved
loop-panel-preserved c =
    let panels = c.args.panels.now in
    let at = c.loop-panel.panel-index in
    let sizes = c.loop-panel.sizes in
    let within : panel_number (get_or panels at Visitors) < length sizes = omega (arith, number-below (get_or panels at Visitors), c.loop-panel.invariant.0) in (
      length-set sizes c.number.result (get_or sizes c.number.result 0 + 1) ∙ c.loop-panel.invariant.0,
      subst (λ (k : ℕ). AreSizes (take (at + 1) panels) (set sizes k (get_or sizes k 0 + 1))) (sym c.number.ensures)
          (size-more panels sizes at Visitors c.loop-panel-test.true c.loop-panel.invariant.1 within),
    )
