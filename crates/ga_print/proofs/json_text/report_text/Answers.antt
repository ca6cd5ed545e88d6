use Rattle.std.proofs.Common.{◌++◌, ◌∷◌, [], ap, ◌∙◌, List, ℕ, Vec, Global}
use Rattle.std.specs.Prelude.{codes}
use Rattle.serde_json.specs.Data.{put, string}
use Rattle.serde_json.specs.View.{members_view}
use Rattle.ga_print.specs.Json.{json_text, put_all}
use Rattle.ga_print.specs.Steps.Texts.{object_text}
use Rattle.ga_print.proofs.Texts.{report-texts}
use Rattle.ga_print.proofs.json_text.report_text.Goals as goal

pub returns : goal.returns
unfolding json_text lib.Utf8.encode
returns c =
    let general = c.from.ensures ∙ ap string c.in_ok-general.ensures in
    let first = c.in_ok-put.ensures ∙ (λ i. put (codes "general") (general i) (members_view (c.new-members.ensures.empty i))) in
    c.from-2.ensures ∙ ap (λ (v : Vec ℕ Global). v.items) c.into_bytes.ensures.value ∙ c.in_ok-push.ensures.bytes
    ∙ ap (λ (x : List ℕ). x ++ 10 ∷ [])
    (c.in_ok-text.ensures ∙ ap object_text (c.in_ok-put_panels.ensures ∙ (λ i. put_all (first i) (c.requires i))) ∙ report-texts c.args.report.now)
