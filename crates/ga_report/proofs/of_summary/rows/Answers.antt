use Rattle.std.proofs.Common.{◌∙◌}
use Rattle.ga_report.specs.Items.{shown_rows}
use Rattle.ga_report.specs.OfSummary.{source_value}
use Rattle.ga_report.proofs.Pairs.{lists-of}
use Rattle.ga_report.proofs.Printables.{printable}
use Rattle.ga_report.proofs.of_summary.rows.Goals as goal

pub returns-clause-report : goal.returns-clause-report
returns-clause-report c = record {
  general = c.in_ok-general.ensures;
  panels = lists-of (source_value c.args.summary.now) (shown_rows c.args.spec (source_value c.args.summary.now).rows) c.args.panels.now c.args.max_items c.in_ok-general.general c.deref.result.now c.in_ok-panels.panels c.in_ok-general.ensures (c.deref.ensures.value ∙ c.in_ok-shown.ensures) c.in_ok-panels.ensures;
}

pub returns-clause-printable : goal.returns-clause-printable
returns-clause-printable c =
    printable (source_value c.args.summary.now) c.args.panels.now c.args.max_items c.args.spec (record { general = c.in_ok-general.general; panels = c.in_ok-panels.panels }) c.totals-totals.ensures.sound (returns-clause-report c)
