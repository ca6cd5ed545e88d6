use Rattle.ga_format.proofs.Answering.{one_answer}
use Rattle.ga_format.proofs.laws.one_answer.Goals as goal

pub returns : goal.returns
returns c = one_answer
