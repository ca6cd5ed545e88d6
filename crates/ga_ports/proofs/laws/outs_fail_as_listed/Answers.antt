use Rattle.ga_ports.proofs.OutTraces.{outs-fail-as-listed}
use Rattle.ga_ports.proofs.laws.outs_fail_as_listed.Goals as goal

pub returns : goal.returns
returns c = λ listed old new told went. outs-fail-as-listed listed told went
