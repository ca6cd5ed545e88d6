use Rattle.std.proofs.Common.{◌≡◌, filter, take}
use Rattle.ga_report.specs.Items.{is_child}
use Rattle.ga_report.proofs.arranging.entries_among.Given as goal

abbrev pub invariant-loop-item : goal.invariant-loop-item
invariant-loop-item l = l.rows.items ≡ filter (λ item. is_child l.group item.key) (take l.item-index l.items)
