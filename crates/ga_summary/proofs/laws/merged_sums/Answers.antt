use Rattle.ga_summary.proofs.Appends.{IsSumOf-append}
use Rattle.ga_summary.proofs.laws.merged_sums.Goals as goal

pub returns : goal.returns
returns c = IsSumOf-append
