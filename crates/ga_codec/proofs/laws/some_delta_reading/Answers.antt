use Rattle.ga_codec.proofs.SomeValue.{some_delta}
use Rattle.ga_codec.proofs.laws.some_delta_reading.Goals as goal

pub returns : goal.returns
returns c = some_delta
