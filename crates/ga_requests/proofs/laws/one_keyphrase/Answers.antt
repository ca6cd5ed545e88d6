use Rattle.ga_requests.proofs.MeaningLemmas.{one-keyphrase}
use Rattle.ga_requests.proofs.laws.one_keyphrase.Goals as goal

pub returns : goal.returns
returns c = one-keyphrase
