use Rattle.ga_hosts.proofs.RangeLemmas.{one_range}
use Rattle.ga_hosts.proofs.laws.one_range.Goals as goal

pub returns : goal.returns
returns c = one_range
