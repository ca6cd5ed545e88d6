use Rattle.std.proofs.Common.{take}
use Rattle.ga_report.specs.Items.{shown_rows}
use Rattle.ga_report.specs.OfSummary.{source_value}
use Rattle.ga_report.specs.Reports.{IsPanelList, Pairwise}
use Rattle.ga_report.proofs.of_summary.panel_lists.Given as goal

abbrev pub invariant-loop-panel : goal.invariant-loop-panel
invariant-loop-panel l = Pairwise (IsPanelList l.general l.max_items (shown_rows l.spec (source_value l.summary).rows)) (take l.panel-index l.panels) l.lists
