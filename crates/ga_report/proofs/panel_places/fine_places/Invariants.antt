use Rattle.std.proofs.Common.{filter, take}
use Rattle.ga_base.specs.declared.panel.Panel.TheVariants.{Visitors}
use Rattle.ga_report.specs.Items.{is_as_fine}
use Rattle.ga_report.specs.Steps.RowPlaces.{AreAt}
use Rattle.ga_report.specs.Steps.Summed.{panel_rows}
use Rattle.ga_report.proofs.panel_places.fine_places.Given as goal

abbrev pub invariant-loop-at : goal.invariant-loop-at
invariant-loop-at g l =
    let rows = (g.T.RowSource.view l.source).rows in
    AreAt rows l.fine.items (filter (λ row. is_as_fine l.spec row.key) (take l.at-index (panel_rows Visitors rows)))
