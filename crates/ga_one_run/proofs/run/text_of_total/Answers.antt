use Rattle.ga_report.specs.OfSummary.{source_value}
use Rattle.ga_summary.specs.LastDays.{trimmed}
use Rattle.ga_report.proofs.Alike.{report-alike}
use Rattle.ga_report.proofs.LastRows.{sources-trimmed}
use Rattle.ga_one_run.proofs.run.text_of_total.Goals as goal

pub source-requires : goal.source-requires
source-requires g c = (c.type_bounds.sync-R, c.requires)

pub returns : goal.returns
returns g c =
    let s = c.args.settings.now in
    let text = c.in_ok-text.ensures in
    record {
      of = λ outcomes tally countable.
          let tells = c.in_ok-told.ensures outcomes tally countable in
          record {
            sum = tells.sum;
            is_sum = tells.is_sum;
            is_text = record {
              report = text.report;
              is_report = report-alike _ (source_value (trimmed s.keep tells.sum)) s.panels s.max_items s.date_spec text.report (sources-trimmed s.keep _ tells.sum tells.same) text.is_report;
              written = text.written;
            };
          };
    }
