use Rattle.std.proofs.Common.{take}
use Rattle.ga_report.specs.Items.{shown_rows}
use Rattle.ga_report.specs.Reports.{IsPanelList, Pairwise}
use Rattle.ga_report.proofs.reporting.lists_in_turn.Given as goal

abbrev pub invariant-loop-panel : goal.invariant-loop-panel
invariant-loop-panel g l = Pairwise (IsPanelList l.general l.shape.max_items (shown_rows l.shape.spec (g.T.RowSource.view l.source).rows)) (take l.panel-index l.panels) l.lists.items
