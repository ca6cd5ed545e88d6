use Rattle.ga_words.proofs.SomeValue.{judged}
use Rattle.ga_words.proofs.laws.each_value_is_judged.Goals as goal

pub returns : goal.returns
returns c = judged c.one_address.ensures
