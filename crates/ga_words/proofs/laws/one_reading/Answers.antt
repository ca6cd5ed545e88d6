use Rattle.ga_words.proofs.OneReading.{one-reading}
use Rattle.ga_words.proofs.laws.one_reading.Goals as goal

pub returns : goal.returns
returns c = one-reading c.one_range.ensures
