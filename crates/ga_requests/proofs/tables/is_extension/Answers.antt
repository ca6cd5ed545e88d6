use Rattle.ga_requests.specs.Tables.{extensions}
use Rattle.ga_requests.proofs.WordLemmas.{known}
use Rattle.ga_requests.proofs.tables.is_extension.Goals as goal

pub returns : goal.returns
returns c = known extensions c.args.text.now c.contains.result c.contains.ensures.value
