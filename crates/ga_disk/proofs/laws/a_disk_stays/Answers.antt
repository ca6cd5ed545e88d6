use Rattle.ga_disk.proofs.Traces.{disk-stays}
use Rattle.ga_disk.proofs.laws.a_disk_stays.Goals as goal

pub returns : goal.returns
returns c = λ old new went. disk-stays went
