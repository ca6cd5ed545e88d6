use Rattle.std.proofs.Common.{length, ap, arith}
use Rattle.ga_report.specs.LastDays.{last_rows}
use Rattle.ga_report.specs.Source.{SourceValue}
use Rattle.ga_report.proofs.PanelPlaces.{as-many}
use Rattle.ga_report.proofs.kept_days.LastDaysRowSource.len.Goals as goal

pub returns : goal.returns
returns g c =
    let inside = c.self.inside in
    let rows = (g.T.RowSource.view inside.source.now).rows in
    let many = as-many rows inside.places.items (last_rows inside.keep rows) c.self.invariant in
    omega (arith, many, ap (λ (source : SourceValue). length source.rows) c.self.view_is, c.len.ensures, inside.places.ok)
