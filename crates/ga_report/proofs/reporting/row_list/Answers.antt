use Rattle.ga_report.specs.Reports.{IsRow}
use Rattle.ga_report.specs.Steps.Summed.{AreSummed, panel_rows}
use Rattle.ga_report.specs.Source.{SourceRow}
use Rattle.ga_report.proofs.Lists.{all-read}
use Rattle.ga_report.proofs.Pairs.{rows-push}
use Rattle.ga_report.proofs.reporting.row_list.Goals as goal

pub loop-top-preserved : goal.loop-top-preserved
loop-top-preserved c = λ source are.
    let summed = all-read (λ (top : SourceRow). AreSummed (panel_rows top.key.panel source) c.args.items.now) c.args.tops.now c.loop-top.top-index c.top-item.result c.loop-top-test.true c.top-item.is are in
    rows-push (IsRow c.args.general.now c.args.max_items source) c.args.tops.now c.loop-top.top-index c.top-item.result c.loop-top.rows c.push.new.self
    (record { item = c.in_ok-item.item; children = c.in_ok-children.children }) c.loop-top-test.true c.top-item.is c.in_ok-push.ensures.ok
    (c.loop-top.invariant source are) (record { is_item = c.in_ok-item.ensures; children = c.in_ok-children.ensures source summed })
