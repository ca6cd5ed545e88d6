use Rattle.std.proofs.Common.{length, sym, ap, ◌∙◌}
use Rattle.ga_report.specs.Source.{SourceValue}
use Rattle.ga_totals.proofs.SourceRows.{rows-many}
use Rattle.ga_totals.proofs.total_source.TotalSourceRowSource.len.Goals as goal

pub returns : goal.returns
returns c =
    c.from.ensures ∙ c.len.ensures.value
    ∙ sym (rows-many _ _ _ c.self.invariant.0.summed c.self.invariant.0.visited) ∙ ap (λ (source : SourceValue). length source.rows) c.self.view_is
