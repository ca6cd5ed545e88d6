use Rattle.std.proofs.Common.{◌≡◌, ◌≤◌, List, arith, filter, length, subst}
use Rattle.ga_report.specs.Items.{order}
use Rattle.ga_report.specs.Steps.Summed.{StandFirst, is_up_to, items_of}
use Rattle.ga_report.specs.Source.{SourceRow}
use Rattle.ga_report.proofs.Arrangement.{order_total}
use Rattle.ga_report.proofs.Firsts.{come-first-of}
use Rattle.ga_report.proofs.arranging.likely_tops.Goals as goal

pub returns-then-most-len-2 : goal.returns-then-most-len-2
returns-then-most-len-2 g c =
    let panel = c.args.panel in
    let most = c.args.most in
    let all = items_of (g.T.RowSource.view c.args.source.now).rows c.args.panel_items.alone.items c.args.panel_items.added.items in
    let threshold = c.select_nth_unstable_by-threshold.result.1.now in
    let near = c.in_ok-near.near in
    let same : near.items ≡ filter (is_up_to (order panel) threshold) all = c.in_ok-near.ensures in
    let enough : most ≤ length near.items = omega (arith, c.if-most-len-2.true, c.len-then-most-len.ensures, near.ok.0) in
    λ first come. come-first-of (order_total panel) most all first threshold (subst (λ (l : List SourceRow). most ≤ length l) same enough) (subst (λ (l : List SourceRow). StandFirst (order panel) most l first) same come)
