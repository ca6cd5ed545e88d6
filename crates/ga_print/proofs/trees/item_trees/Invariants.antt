use Rattle.std.proofs.Common.{◌≡◌, map, take}
use Rattle.serde_json.specs.View.{view}
use Rattle.ga_print.specs.Json.{item_tree}
use Rattle.ga_print.proofs.trees.item_trees.Given as goal

abbrev pub invariant-loop-item : goal.invariant-loop-item
invariant-loop-item l = map view l.trees.items ≡ map item_tree (take l.item-index l.items)
