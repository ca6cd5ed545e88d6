use Rattle.ga_summary.proofs.DatedSums.{only-dated}
use Rattle.ga_summary.proofs.laws.only_dated_sums.Goals as goal

pub returns : goal.returns
returns c = only-dated
