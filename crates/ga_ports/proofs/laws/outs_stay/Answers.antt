use Rattle.ga_ports.proofs.OutTraces.{outs-stay}
use Rattle.ga_ports.proofs.laws.outs_stay.Goals as goal

pub returns : goal.returns
returns c = λ old new went. outs-stay went
