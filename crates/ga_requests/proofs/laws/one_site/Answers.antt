use Rattle.ga_requests.proofs.MeaningLemmas.{one-site}
use Rattle.ga_requests.proofs.laws.one_site.Goals as goal

pub returns : goal.returns
returns c = one-site
