use Rattle.ga_codec.proofs.OneValue.{one_delta_law}
use Rattle.ga_codec.proofs.laws.one_delta.Goals as goal

pub returns : goal.returns
returns c = one_delta_law
