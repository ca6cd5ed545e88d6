use Rattle.ga_dbtool.proofs.MergedSums.{merged-days}
use Rattle.ga_dbtool.proofs.laws.merged_databases.Goals as goal

pub returns : goal.returns
returns c = merged-days c.merged_sums.ensures c.one_sum.ensures c.some_merged.ensures c.trimmed_merge.ensures c.trimmed_sums.ensures.sound
