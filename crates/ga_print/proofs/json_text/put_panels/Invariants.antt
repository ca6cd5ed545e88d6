use Rattle.std.proofs.Common.{◌≡◌, map}
use Rattle.serde_json.specs.View.{members_view}
use Rattle.ga_print.specs.Json.{put_all}
use Rattle.ga_print.specs.Steps.Texts.{text_member}
use Rattle.ga_print.proofs.json_text.put_panels.Given as goal

abbrev pub invariant-loop-panel : goal.invariant-loop-panel
invariant-loop-panel l = members_view l.members.entries ≡ put_all (members_view l.initial.members.entries) (map text_member l.yielded)
