use Rattle.std.proofs.Common.{◌≡◌, filter, take}
use Rattle.ga_base.specs.Panels.{has_panel}
use Rattle.ga_base.specs.declared.panel.TheConstants.Panel.{ALL}
use Rattle.ga_report.proofs.reporting.shown_panels.Given as goal

abbrev pub invariant-loop-panel : goal.invariant-loop-panel
invariant-loop-panel l = l.shown.items ≡ filter (has_panel l.panels) (take l.panel-index ALL)
