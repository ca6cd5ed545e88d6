use Rattle.ga_summary.proofs.Unique as unique
use Rattle.ga_summary.proofs.laws.one_merged.Goals as goal

pub returns : goal.returns
returns c = unique.one_merged
