use Rattle.std.proofs.Common.{◌≡◌, ◌++◌}
use Rattle.std.specs.Prelude.{string_bytes}
use Rattle.serde_json.specs.View.{members_view}
use Rattle.ga_print.specs.Steps.Texts.{object_text, texts_text}
use Rattle.ga_print.proofs.json_text.object_text.Given as goal

abbrev pub invariant-loop-name : goal.invariant-loop-name
invariant-loop-name l = string_bytes l.text ++ texts_text l.later (members_view l.name-iterator) ≡ object_text (members_view l.members.entries)
