use Rattle.std.proofs.Common.{refl, sym, ◌∙◌}
use Rattle.ga_base.specs.Panels.{has_panel}
use Rattle.ga_base.specs.declared.panel.TheConstants.Panel.{ALL}
use Rattle.ga_report.proofs.Pairs.{shown-all, shown-more, shown-pass}
use Rattle.ga_report.proofs.reporting.shown_panels.Goals as goal
use Rattle.ga_report.proofs.reporting.shown_panels.Goals.{then-has+in_ok-push, else-has}

pub loop-panel-preserved : goal.loop-panel-preserved
loop-panel-preserved c = elim c.if-has.branch [
  | then-has+in_ok-push w ↦
      rw w.shown-is (shown-more (has_panel c.args.panels.now) ALL c.loop-panel.panel-index _ c.loop-panel.shown.items _
      c.loop-panel-test.true (sym c.has.ensures ∙ w.if-has.true) w.in_ok-push.ensures.items c.loop-panel.invariant)
  | else-has w ↦
      rw w.shown-is (shown-pass (has_panel c.args.panels.now) ALL c.loop-panel.panel-index _ c.loop-panel.shown.items _
      c.loop-panel-test.true (sym c.has.ensures ∙ w.if-has.false) refl c.loop-panel.invariant)
]

pub returns : goal.returns
returns c = shown-all c.args.panels.now c.loop-panel.panel-index c.loop-panel.shown.items c.loop-panel-test.false c.loop-panel.invariant
