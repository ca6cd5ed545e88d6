use Rattle.std.proofs.Common.{◌≡◌, All, subst, sym}
use Rattle.ga_report.specs.declared.report.General.{General}
use Rattle.ga_report.specs.Items.{shown_rows}
use Rattle.ga_report.specs.OfSummary.{source_value}
use Rattle.ga_report.specs.Steps.Summed.{IsPart}
use Rattle.ga_report.proofs.Firsts.{all-first}
use Rattle.ga_report.proofs.PanelItems.{are-of-panel, are-parts}
use Rattle.ga_report.proofs.of_summary.panel_list.Goals as goal

pub list_with_groups-requires-clause-panel : goal.list_with_groups-requires-clause-panel
list_with_groups-requires-clause-panel c = are-of-panel c.args.panel (shown_rows c.args.spec (source_value c.args.summary.now).rows) _ c.in_ok-items.ensures

pub list_with_groups-requires-clause-parts : goal.list_with_groups-requires-clause-parts
list_with_groups-requires-clause-parts c =
    subst (λ (general : General). All (IsPart general) c.in_ok-items.items.items) (sym c.requires)
    (are-parts (source_value c.args.summary.now) c.args.panel c.args.spec _ c.totals-totals.ensures.sound c.in_ok-items.ensures)

pub plain_list-requires-clause-panel : goal.plain_list-requires-clause-panel
plain_list-requires-clause-panel c =
    let items = c.in_ok-items.items.items in
    rw c.deref.ensures.value (all-first (λ item. item.key.panel ≡ c.args.panel) c.args.panel c.args.max_items items c.in_ok-tops.tops.items c.in_ok-tops.ensures
    (are-of-panel c.args.panel (shown_rows c.args.spec (source_value c.args.summary.now).rows) items c.in_ok-items.ensures))

pub plain_list-requires-clause-parts : goal.plain_list-requires-clause-parts
plain_list-requires-clause-parts c =
    let source = source_value c.args.summary.now in
    let items = c.in_ok-items.items.items in
    let parts = subst (λ (general : General). All (IsPart general) items) (sym c.requires) (are-parts source c.args.panel c.args.spec items c.totals-totals.ensures.sound c.in_ok-items.ensures) in
    rw c.deref.ensures.value (all-first (IsPart c.args.general.now) c.args.panel c.args.max_items items c.in_ok-tops.tops.items c.in_ok-tops.ensures parts)
