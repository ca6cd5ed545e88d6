use Rattle.std.proofs.Common.{◌∙◌, ap, sym}
use Rattle.ga_report.specs.OfSummary.{source_value}
use Rattle.ga_one_run.specs.Reports.{shown}
use Rattle.ga_one_run.proofs.laws.one_text.Goals as goal

pub returns : goal.returns
returns c = λ s sum a b h k.
    let report = c.one_report.ensures (source_value sum) s.panels s.max_items s.date_spec h.report k.report h.is_report k.is_report in
    h.written ∙ ap (shown s.generate s.output.kind) report ∙ sym k.written
