use Rattle.ga_codec.proofs.SomeValue.{some_snapshot}
use Rattle.ga_codec.proofs.laws.some_reading.Goals as goal

pub returns : goal.returns
returns c = some_snapshot
