use Rattle.ga_summary.proofs.LastDays as last
use Rattle.ga_summary.proofs.laws.trimmed_sums.Goals as goal

pub returns-clause-sound : goal.returns-clause-sound
returns-clause-sound c = last.trimmed-summary

pub returns-clause-twice : goal.returns-clause-twice
returns-clause-twice c = last.trimmed-twice

pub returns-clause-totals : goal.returns-clause-totals
returns-clause-totals c = last.trimmed-totals
