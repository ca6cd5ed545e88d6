use Rattle.std.proofs.Common.{◌≡◌, map, take}
use Rattle.ga_print.specs.Steps.Texts.{panel_text, text_member}
use Rattle.ga_print.proofs.json_text.panel_texts.Given as goal

abbrev pub invariant-loop-list : goal.invariant-loop-list
invariant-loop-list l = map text_member l.texts.items ≡ map panel_text (take l.list-index l.lists)
