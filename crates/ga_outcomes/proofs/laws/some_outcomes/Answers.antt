use Rattle.ga_outcomes.proofs.SomeOutcomes.{some-outcomes}
use Rattle.ga_outcomes.proofs.laws.some_outcomes.Goals as goal

pub returns : goal.returns
returns c = some-outcomes c.every_line_says_something.ensures c.some_list_of_keys.ensures
