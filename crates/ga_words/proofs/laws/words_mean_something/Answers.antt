use Rattle.ga_words.proofs.SomeAnswer.{some-answer, not-memory}
use Rattle.ga_words.proofs.laws.words_mean_something.Goals as goal

pub returns : goal.returns
returns c = record { some = some-answer c.one_address.ensures; not_memory = not-memory }
