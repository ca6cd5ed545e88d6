use Rattle.ga_summary.proofs.TrimmedMerge as merged
use Rattle.ga_summary.proofs.laws.trimmed_merge.Goals as goal

pub returns : goal.returns
returns c = merged.trimmed-merge
