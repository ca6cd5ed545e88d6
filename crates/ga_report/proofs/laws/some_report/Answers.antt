use Rattle.ga_report.proofs.SomeReport.{some-report}
use Rattle.ga_report.proofs.laws.some_report.Goals as goal

pub returns : goal.returns
returns c = some-report
