use Rattle.std.proofs.Common.{◌≡◌, ◌<◌, [], get_or, length, sym, ap, ◌∙◌, subst, arith}
use Rattle.std.specs.Option.{IfSome}
use Rattle.std.specs.Prelude.{slice_get}
use Rattle.std.proofs.lemmas.List.{get_or-map, length-map}
use Rattle.ga_base.specs.declared.key.Key.{Key}
use Rattle.ga_report.specs.Source.{SourceRow, SourceValue}
use Rattle.ga_summary.specs.SummaryRows.{no_sums}
use Rattle.ga_totals.proofs.SourceRows.{row-at, rows-many}
use Rattle.ga_totals.proofs.total_source.TotalSourceRowSource.panel.Goals as goal

pub prove-unreachable-requires : goal.prove-unreachable-requires
prove-unreachable-requires c =
    let inside = c.self.inside in
    let many = rows-many _ _ _ c.self.invariant.0.summed c.self.invariant.0.visited in
    let panels = ap length c.self.invariant.1 ∙ length-map inside.keys.now (λ (key : Key). key.panel) in
    omega (arith, ap (λ (source : SourceValue). length source.rows) c.self.view_is, inside.panels.ok)

pub returns : goal.returns
returns c =
    let inside = c.self.inside in
    let some : Key = record { panel = c.index.result.now; date = 0; parent = []; label = []; method = []; protocol = [] } in
    let less = subst (λ (source : SourceValue). c.args.at < length source.rows) (sym c.self.view_is) c.requires in
    let many = rows-many _ _ _ c.self.invariant.0.summed c.self.invariant.0.visited in
    let within : c.args.at < length inside.keys.now = omega (arith, less, many) in
    let row = ap (λ (source : SourceValue). slice_get source.rows c.args.at) (sym c.self.view_is) ∙ row-at _ _ _ c.args.at some no_sums 0 less in
    subst (λ o. IfSome o (λ (row : SourceRow). c.index.result.now ≡ row.key.panel)) (sym row)
    (c.index.ensures ∙ ap (λ panels. get_or panels c.args.at c.index.result.now) c.self.invariant.1 ∙ get_or-map (λ (key : Key). key.panel) inside.keys.now c.args.at some c.index.result.now within)
