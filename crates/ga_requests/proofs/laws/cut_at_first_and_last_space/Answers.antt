use Rattle.ga_requests.proofs.MeaningLemmas.{no-spaces}
use Rattle.ga_requests.proofs.laws.cut_at_first_and_last_space.Goals as goal

pub returns : goal.returns
returns c = no-spaces
