use Rattle.ga_requests.specs.Tables.{methods}
use Rattle.ga_requests.proofs.WordLemmas.{known}
use Rattle.ga_requests.proofs.tables.is_method.Goals as goal

pub returns : goal.returns
returns c = known methods c.args.text.now c.contains.result c.contains.ensures.value
