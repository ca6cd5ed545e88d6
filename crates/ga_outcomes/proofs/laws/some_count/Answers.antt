use Rattle.ga_outcomes.proofs.SomeOutcomes.{some-count}
use Rattle.ga_outcomes.proofs.laws.some_count.Goals as goal

pub returns : goal.returns
returns c = λ setup start all. some-count c.every_line_says_something.ensures c.some_list_of_keys.ensures setup c.some_sum.ensures start all
