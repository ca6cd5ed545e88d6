use Rattle.std.proofs.Common.{List, subst, sym, ◌∙◌}
use Rattle.ga_report.specs.Items.{shown_rows}
use Rattle.ga_report.specs.declared.report.PanelList.{PanelList}
use Rattle.ga_report.specs.Reports.{IsPanelList, Pairwise, general_of, panels_of}
use Rattle.ga_report.proofs.Pairs.{lists-of}
use Rattle.ga_report.proofs.Printables.{printable}
use Rattle.ga_report.proofs.reporting.rows_from.Goals as goal

pub returns-clause-report : goal.returns-clause-report
returns-clause-report g c =
    let source = g.T.RowSource.view c.args.source.now in
    let rows = shown_rows c.args.spec source.rows in
    record {
      general = c.in_ok-general.ensures;
      panels = subst (λ (lists : List PanelList). Pairwise (IsPanelList (general_of source) c.args.max_items rows) (panels_of c.args.panels.now) lists) (sym c.from.ensures)
          (lists-of source rows c.args.panels.now c.args.max_items c.in_ok-general.general c.deref.result.now c.in_ok-lists.lists.items c.in_ok-general.ensures (c.deref.ensures.value ∙ c.in_ok-shown.ensures) c.in_ok-lists.ensures);
    }

pub returns-clause-printable : goal.returns-clause-printable
returns-clause-printable g c =
    printable (g.T.RowSource.view c.args.source.now) c.args.panels.now c.args.max_items c.args.spec (record { general = c.in_ok-general.general; panels = c.from.result })
    c.totals-totals.ensures.sound (returns-clause-report g c)
