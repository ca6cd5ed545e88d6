use Rattle.ga_report.proofs.OfSummaries.{source-sound}
use Rattle.ga_report.proofs.of_summary.SummaryRowSource.totals.Goals as goal

pub returns-clause-sound : goal.returns-clause-sound
returns-clause-sound c = source-sound c.args.self.now c.totals.ensures.sound
