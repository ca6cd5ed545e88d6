use Rattle.ga_disk.proofs.Traces.{disk-fails-as-listed}
use Rattle.ga_disk.proofs.laws.a_disk_fails_as_listed.Goals as goal

pub returns : goal.returns
returns c = λ listed old new told went. disk-fails-as-listed listed told went
