use Rattle.std.proofs.Common.{◌≡◌, ◌++◌, false, map, drop}
use Rattle.std.specs.Prelude.{string_bytes}
use Rattle.serde_json.specs.View.{items_of}
use Rattle.serde_json.specs.Written.{items_text}
use Rattle.ga_print.specs.Json.{row_tree}
use Rattle.ga_print.proofs.json_text.write_rows.Given as goal

abbrev pub invariant-loop-row : goal.invariant-loop-row
invariant-loop-row l = string_bytes l.text ++ items_text l.later (items_of (map (row_tree l.groups) (drop l.row-index l.rows)))
    ≡ string_bytes l.initial.text ++ items_text false (items_of (map (row_tree l.groups) l.rows))
