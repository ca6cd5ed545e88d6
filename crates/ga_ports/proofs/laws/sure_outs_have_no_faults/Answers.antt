use Rattle.std.proofs.Common.{refl}
use Rattle.ga_ports.proofs.OutTraces.{each}
use Rattle.ga_ports.proofs.Sure.{no-out-faults}
use Rattle.ga_ports.proofs.laws.sure_outs_have_no_faults.Goals as goal

pub returns-clause-view : goal.returns-clause-view
returns-clause-view c = λ outs. record { listed = refl; rooms = each _ refl refl refl }

pub returns-clause-calls : goal.returns-clause-calls
returns-clause-calls c = no-out-faults
