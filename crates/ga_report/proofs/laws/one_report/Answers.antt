use Rattle.ga_report.proofs.OneArrangement.{one-report}
use Rattle.ga_report.proofs.laws.one_report.Goals as goal

pub returns : goal.returns
returns c = one-report
