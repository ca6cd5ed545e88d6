use Rattle.ga_report.specs.Items.{shown_rows}
use Rattle.ga_report.specs.OfSummary.{source_value}
use Rattle.ga_report.specs.Reports.{IsPanelList}
use Rattle.ga_report.proofs.Pairs.{lists-done, lists-push}
use Rattle.ga_report.proofs.of_summary.panel_lists.Goals as goal

pub loop-panel-preserved : goal.loop-panel-preserved
loop-panel-preserved c =
    lists-push (IsPanelList c.args.general.now c.args.max_items (shown_rows c.args.spec (source_value c.args.summary.now).rows)) c.args.panels.now c.loop-panel.panel-index _ c.loop-panel.lists _ c.in_ok-panel_list.field-0
    c.loop-panel-test.true c.in_ok-push.ensures.ok c.loop-panel.invariant c.in_ok-panel_list.ensures

pub returns : goal.returns
returns c =
    lists-done (IsPanelList c.args.general.now c.args.max_items (shown_rows c.args.spec (source_value c.args.summary.now).rows)) c.args.panels.now c.loop-panel.panel-index c.loop-panel.lists
    c.loop-panel-test.false c.loop-panel.invariant
