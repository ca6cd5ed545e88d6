use Rattle.std.proofs.Common.{ap, subst, ◌∙◌}
use Rattle.ga_report.specs.SoundRows.{AreSound}
use Rattle.ga_report.specs.Source.{SourceValue}
use Rattle.ga_report.proofs.LastRows.{last-sound}
use Rattle.ga_report.proofs.kept_days.LastDaysRowSource.totals.Goals as goal

pub returns-clause-totals : goal.returns-clause-totals
returns-clause-totals g c = c.totals.ensures.totals ∙ ap (λ (source : SourceValue). source.totals) c.self.view_is

pub returns-clause-sound : goal.returns-clause-sound
returns-clause-sound g c =
    let inside = c.self.inside in
    subst (λ (source : SourceValue). AreSound source.rows) c.self.view_is (last-sound inside.keep (g.T.RowSource.view inside.source.now).rows c.totals.ensures.sound)
