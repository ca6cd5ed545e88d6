use Rattle.std.proofs.Common.{ℕ, List, ap, get_or, arith}
use Rattle.std.specs.Prelude.{count_by}
use Rattle.ga_base.specs.declared.panel.Panel.{Panel}
use Rattle.ga_base.specs.Panels.{is_same_panel}
use Rattle.ga_report.specs.Source.{SourceValue}
use Rattle.ga_totals.proofs.Sizes.{rows-of-panel}
use Rattle.ga_totals.proofs.total_source.TotalSourceRowSource.at_most.Goals as goal

pub returns : goal.returns
returns c =
    let inside = c.self.inside in
    let panel = c.args.panel in
    let rows = ap (λ (source : SourceValue). count_by (λ row. is_same_panel row.key.panel panel) source.rows) c.self.view_is in
    let panels = ap (λ (panels : List Panel). count_by (λ own. is_same_panel own panel) panels) c.self.invariant.1 in
    let size = ap (λ (number : ℕ). get_or inside.sizes number 0) c.number.ensures in
    omega (arith, rows, panels, size, c.self.invariant.2 panel, rows-of-panel panel inside.keys.now inside.sums.now inside.visits.items)
