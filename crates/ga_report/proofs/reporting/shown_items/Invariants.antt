use Rattle.std.proofs.Common.{◌≡◌, map, take}
use Rattle.ga_report.specs.Reports.{shown_as}
use Rattle.ga_report.proofs.reporting.shown_items.Given as goal

abbrev pub invariant-loop-item : goal.invariant-loop-item
invariant-loop-item l = l.shown ≡ map (shown_as l.general) (take l.item-index l.items)
