use Rattle.std.proofs.Common.{◌≡◌, ◌++◌, take}
use Rattle.ga_jsonlog.proofs.compiling.add_items.Given as goal

abbrev pub invariant-loop-item : goal.invariant-loop-item
invariant-loop-item l = l.given.items ≡ l.initial.given.items ++ take l.item-index l.items
