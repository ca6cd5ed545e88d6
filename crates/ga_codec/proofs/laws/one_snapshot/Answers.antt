use Rattle.ga_codec.proofs.OneValue.{one_snapshot_law}
use Rattle.ga_codec.proofs.laws.one_snapshot.Goals as goal

pub returns : goal.returns
returns c = one_snapshot_law
