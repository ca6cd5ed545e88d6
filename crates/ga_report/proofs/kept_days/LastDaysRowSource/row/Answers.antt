use Rattle.std.proofs.Common.{◌<◌, length, sym, ap, ◌∙◌, arith}
use Rattle.std.specs.Prelude.{slice_get}
use Rattle.ga_report.specs.LastDays.{last_rows}
use Rattle.ga_report.specs.Source.{SourceValue}
use Rattle.ga_report.proofs.LastRows.{stands}
use Rattle.ga_report.proofs.Lists.{all-read}
use Rattle.ga_report.proofs.PanelPlaces.{all-inside, as-many}
use Rattle.ga_report.proofs.kept_days.LastDaysRowSource.row.Goals as goal

pub prove-unreachable-requires : goal.prove-unreachable-requires
prove-unreachable-requires g c =
    let inside = c.self.inside in
    let rows = (g.T.RowSource.view inside.source.now).rows in
    let many = as-many rows inside.places.items (last_rows inside.keep rows) c.self.invariant in
    omega (arith, many, ap (λ (source : SourceValue). length source.rows) c.self.view_is, inside.places.ok)

pub row-requires : goal.row-requires
row-requires g c =
    let inside = c.self.inside in
    let rows = (g.T.RowSource.view inside.source.now).rows in
    let many = as-many rows inside.places.items (last_rows inside.keep rows) c.self.invariant in
    let within : c.args.at < length inside.places.items = omega (arith, many, ap (λ (source : SourceValue). length source.rows) c.self.view_is, c.requires) in
    all-read (λ place. place < length rows) inside.places.items c.args.at c.index.result.now within c.index.ensures (all-inside rows inside.places.items (last_rows inside.keep rows) c.self.invariant)

pub returns : goal.returns
returns g c =
    let inside = c.self.inside in
    let rows = (g.T.RowSource.view inside.source.now).rows in
    let many = as-many rows inside.places.items (last_rows inside.keep rows) c.self.invariant in
    let within : c.args.at < length inside.places.items = omega (arith, many, ap (λ (source : SourceValue). length source.rows) c.self.view_is, c.requires) in
    let there = stands rows inside.places.items (last_rows inside.keep rows) c.args.at c.index.result.now c.self.invariant within c.index.ensures in
    let read = sym there ∙ ap (λ (source : SourceValue). slice_get source.rows c.args.at) c.self.view_is in
    sym read ∙ c.row.ensures
