use Rattle.std.proofs.Common.{filter, take}
use Rattle.std.specs.Prelude.{nat_le}
use Rattle.ga_report.specs.Steps.RowPlaces.{AreAt}
use Rattle.ga_report.proofs.kept_days.places_from.Given as goal

abbrev pub invariant-loop-at : goal.invariant-loop-at
invariant-loop-at g l =
    let rows = (g.T.RowSource.view l.source).rows in
    AreAt rows l.places.items (filter (λ row. nat_le l.bar row.key.date) (take l.at rows))
