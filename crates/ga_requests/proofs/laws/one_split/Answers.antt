use Rattle.ga_requests.proofs.MeaningLemmas.{one-split}
use Rattle.ga_requests.proofs.laws.one_split.Goals as goal

pub returns : goal.returns
returns c = one-split
