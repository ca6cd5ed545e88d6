use Rattle.std.proofs.Common.{◌++◌, ◌∷◌, [], ap, ◌∙◌, List, ℕ, false, map}
use Rattle.serde_json.specs.View.{items_of}
use Rattle.serde_json.specs.Written.{items_text}
use Rattle.serde_json.proofs.OnLiterals.{serde_json_on_literals}
use Rattle.ga_print.specs.Json.{object_of, panel_tree, row_tree}
use Rattle.ga_print.proofs.json_text.text_of.Goals as goal

pub returns : goal.returns
unfolding panel_tree object_of lib.Utf8.encode serde_json_on_literals
returns c =
    c.in_ok-push.ensures.bytes ∙ ap (λ (x : List ℕ). x ++ 125 ∷ [])
    (c.in_ok-write_rows.ensures ∙ (λ i. c.in_ok-text.ensures.ok i ++ items_text false (items_of (map (row_tree (c.has_groups.ensures i)) (c.items.ensures i)))))
