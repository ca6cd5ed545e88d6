use Rattle.std.proofs.Common.{take}
use Rattle.ga_report.specs.Steps.RowPlaces.{AreAt}
use Rattle.ga_report.specs.Steps.Summed.{panel_rows}
use Rattle.ga_report.proofs.panel_places.places_of.Given as goal

abbrev pub invariant-loop-at : goal.invariant-loop-at
invariant-loop-at g l = AreAt (g.T.RowSource.view l.source).rows l.places.items (panel_rows l.panel (take l.at (g.T.RowSource.view l.source).rows))
