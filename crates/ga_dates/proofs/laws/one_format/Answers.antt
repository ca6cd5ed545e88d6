use Rattle.ga_dates.proofs.OneFormat.{one_answer}
use Rattle.ga_dates.proofs.laws.one_format.Goals as goal

pub returns : goal.returns
returns c = one_answer
