use Rattle.std.proofs.Common.{ap, ◌∙◌}
use Rattle.serde_json.specs.Written.{compact_text, has_float}
use Rattle.ga_print.proofs.NoFloats.{row-none}
use Rattle.ga_print.proofs.json_text.row_text.Goals as goal

pub returns : goal.returns
returns c =
    c.in_ok-to_string.ensures.text (ap has_float c.in_ok-row_tree.ensures ∙ row-none c.args.groups c.args.row.now) ∙ ap compact_text c.in_ok-row_tree.ensures
