use Rattle.ga_summary.proofs.PrefixRows.{no_break}
use Rattle.ga_summary.proofs.laws.one_first_bad.Goals as goal

pub returns-clause-apart : goal.returns-clause-apart
returns-clause-apart c = no_break
