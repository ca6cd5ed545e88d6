use Rattle.ga_ports.proofs.FileTraces.{files-fail-as-listed}
use Rattle.ga_ports.proofs.laws.files_fail_as_listed.Goals as goal

pub returns : goal.returns
returns c = λ listed old new told went. files-fail-as-listed listed told went
