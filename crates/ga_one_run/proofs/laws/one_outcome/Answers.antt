use Rattle.ga_one_run.proofs.FormatLemmas.{one-outcome}
use Rattle.ga_one_run.proofs.laws.one_outcome.Goals as goal

pub returns : goal.returns
returns c = one-outcome c.one_shape.ensures c.one_format.ensures
