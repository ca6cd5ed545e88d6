use Rattle.std.proofs.Common.{◌≡◌, Some, subst, sym}
use Rattle.std.proofs.lemmas.Result.{IfOk-weaker}
use Rattle.ga_summary.specs.Steps.Joined.{merged_value}
use Rattle.ga_summary.specs.SummaryRows.{SummaryValue}
use Rattle.ga_summary.specs.Sums.{IsMerged}
use Rattle.ga_summary.proofs.Soundness.{IsMerged-merged_value}
use Rattle.ga_store.specs.Steps.Records.{IsTogether}
use Rattle.ga_store.proofs.growing.together.Goals as goal

pub returns-in-Some : goal.returns-in-Some
returns-in-Some c =
    let one = c.in-Some.apart in
    let more = c.args.more in
    let ordered = c.join_fitting.ensures.ordered in
    rw (c.in-Some.is) (IfOk-weaker c.join_fitting.result (λ (v : SummaryValue). v ≡ merged_value one more) (IsTogether (Some one) more)
    (λ v is. (ordered.0, subst (λ (w : SummaryValue). IsMerged one more w) (sym is) (IsMerged-merged_value one more ordered.0 ordered.1))) c.join_fitting.ensures.joined)
