use Rattle.ga_logs.proofs.AsTold.{all-told, some-told}
use Rattle.ga_logs.proofs.laws.read_as_told.Goals as goal

pub returns : goal.returns
returns c = record { all = all-told; some = some-told }
