use Rattle.ga_ports.proofs.FileTraces.{files-stay}
use Rattle.ga_ports.proofs.laws.files_stay.Goals as goal

pub returns : goal.returns
returns c = λ old new went. files-stay went
