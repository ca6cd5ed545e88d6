use Rattle.ga_ports.specs.Trace.{no_files_call}
use Rattle.ga_one_run.proofs.rules.rules_of.Goals as goal

pub returns-in-None-clause-calls : goal.returns-in-None-clause-calls
returns-in-None-clause-calls g c = no_files_call
