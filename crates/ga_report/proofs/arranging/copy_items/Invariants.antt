use Rattle.std.proofs.Common.{◌≡◌, take}
use Rattle.ga_report.proofs.arranging.copy_items.Given as goal

abbrev pub invariant-loop-item : goal.invariant-loop-item
invariant-loop-item l = l.rows.items ≡ take l.item-index l.items
