use Rattle.ga_summary.proofs.SomeSum.{some-sum}
use Rattle.ga_summary.proofs.laws.some_sum.Goals as goal

pub returns : goal.returns
returns c = some-sum
