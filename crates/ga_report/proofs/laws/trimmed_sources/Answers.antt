use Rattle.ga_report.proofs.LastRows.{sources-trimmed}
use Rattle.ga_report.proofs.laws.trimmed_sources.Goals as goal

pub returns : goal.returns
returns c = sources-trimmed
