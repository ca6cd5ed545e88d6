use Rattle.std.proofs.Common.{◌≡◌, All, List, subst, sym}
use Rattle.ga_report.specs.declared.report.General.{General}
use Rattle.ga_report.specs.Items.{shown_rows}
use Rattle.ga_report.specs.Reports.{general_of}
use Rattle.ga_report.specs.Steps.Summed.{IsPart, items_of}
use Rattle.ga_report.specs.Source.{SourceRow}
use Rattle.ga_report.proofs.Firsts.{all-first}
use Rattle.ga_report.proofs.PanelItems.{are-of-panel, are-parts}
use Rattle.ga_report.proofs.reporting.panel_list.Goals as goal

pub list_with_groups-requires-clause-panel : goal.list_with_groups-requires-clause-panel
list_with_groups-requires-clause-panel g c =
    let rows = (g.T.RowSource.view c.args.source.now).rows in
    subst (λ (items : List SourceRow). All (λ item. item.key.panel ≡ c.args.panel) items) (sym c.in_ok-items.ensures) (are-of-panel c.args.panel (shown_rows c.args.shape.spec rows) _ c.in_ok-panel_items.ensures.items)

pub list_with_groups-requires-clause-parts : goal.list_with_groups-requires-clause-parts
list_with_groups-requires-clause-parts g c =
    let source = g.T.RowSource.view c.args.source.now in
    subst (λ (general : General). All (IsPart general) c.in_ok-items.items.items) (sym c.requires)
    (subst (λ (items : List SourceRow). All (IsPart (general_of source)) items) (sym c.in_ok-items.ensures) (are-parts source c.args.panel c.args.shape.spec _ c.totals-totals.ensures.sound c.in_ok-panel_items.ensures.items))

pub plain_list-requires-clause-panel : goal.plain_list-requires-clause-panel
plain_list-requires-clause-panel g c =
    let rows = (g.T.RowSource.view c.args.source.now).rows in
    let panel_items = c.in_ok-panel_items.panel_items in
    let items = items_of rows panel_items.alone.items panel_items.added.items in
    rw c.deref.ensures.value (all-first (λ item. item.key.panel ≡ c.args.panel) c.args.panel c.args.shape.max_items items c.in_ok-tops.tops.items c.in_ok-tops.ensures
    (are-of-panel c.args.panel (shown_rows c.args.shape.spec rows) items c.in_ok-panel_items.ensures.items))

pub plain_list-requires-clause-parts : goal.plain_list-requires-clause-parts
plain_list-requires-clause-parts g c =
    let source = g.T.RowSource.view c.args.source.now in
    let panel_items = c.in_ok-panel_items.panel_items in
    let items = items_of source.rows panel_items.alone.items panel_items.added.items in
    let parts = subst (λ (general : General). All (IsPart general) items) (sym c.requires) (are-parts source c.args.panel c.args.shape.spec items c.totals-totals.ensures.sound c.in_ok-panel_items.ensures.items) in
    rw c.deref.ensures.value (all-first (IsPart c.args.general.now) c.args.panel c.args.shape.max_items items c.in_ok-tops.tops.items c.in_ok-tops.ensures parts)
