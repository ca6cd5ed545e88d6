use Rattle.std.proofs.Common.{ap, map, sym, ◌∙◌, ◌∷◌, []}
use Rattle.std.proofs.lemmas.List.{map-append}
use Rattle.serde_json.specs.Data.{put}
use Rattle.serde_json.specs.View.{members_view}
use Rattle.ga_print.specs.Json.{put_all}
use Rattle.ga_print.specs.Steps.Texts.{text_member}
use Rattle.ga_print.proofs.NoFloats.{put_all-append}
use Rattle.ga_print.proofs.json_text.put_panels.Goals as goal

pub loop-panel-preserved : goal.loop-panel-preserved
loop-panel-preserved c =
    let l = c.loop-panel in
    let before = members_view c.args.members.now.entries in
    let one = text_member c.in-Some.panel in
    c.in_ok-put.ensures ∙ (λ i. put (c.panel_name.ensures i) (c.from.ensures i) (l.invariant i))
    ∙ sym (ap (put_all before) (map-append text_member l.yielded (c.in-Some.panel ∷ [])) ∙ put_all-append before (map text_member l.yielded) (one ∷ []))
