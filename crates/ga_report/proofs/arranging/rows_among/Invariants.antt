use Rattle.std.proofs.Common.{◌≡◌, filter, take}
use Rattle.ga_report.specs.Items.{is_row}
use Rattle.ga_report.proofs.arranging.rows_among.Given as goal

abbrev pub invariant-loop-item : goal.invariant-loop-item
invariant-loop-item l = l.rows.items ≡ filter (λ item. is_row l.panel item.key) (take l.item-index l.items)
