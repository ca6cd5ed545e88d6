use Rattle.ga_report.specs.Items.{shown_rows}
use Rattle.ga_report.specs.Reports.{IsPanelList}
use Rattle.ga_report.proofs.Pairs.{lists-done, lists-push}
use Rattle.ga_report.proofs.reporting.lists_in_turn.Goals as goal

pub loop-panel-preserved : goal.loop-panel-preserved
loop-panel-preserved g c =
    lists-push (IsPanelList c.args.general.now c.args.shape.max_items (shown_rows c.args.shape.spec (g.T.RowSource.view c.args.source.now).rows)) c.args.panels.now c.loop-panel.panel-index _ c.loop-panel.lists.items _ c.in_ok-panel_list.field-0
    c.loop-panel-test.true c.in_ok-push.ensures.items c.loop-panel.invariant c.in_ok-panel_list.ensures

pub returns : goal.returns
returns g c =
    lists-done (IsPanelList c.args.general.now c.args.shape.max_items (shown_rows c.args.shape.spec (g.T.RowSource.view c.args.source.now).rows)) c.args.panels.now c.loop-panel.panel-index c.loop-panel.lists.items
    c.loop-panel-test.false c.loop-panel.invariant
