use Rattle.std.proofs.Common.{◌≡◌, filter, take}
use Rattle.ga_report.specs.Items.{order}
use Rattle.ga_report.specs.Steps.Summed.{is_up_to}
use Rattle.ga_report.proofs.arranging.items_up_to.Given as goal

abbrev pub invariant-loop-item : goal.invariant-loop-item
invariant-loop-item l = l.rows.items ≡ filter (is_up_to (order l.panel) l.threshold) (take l.item-index l.items)
