use Rattle.ga_ports.specs.Trace.{create_call, one_outs_call, outs_then}
use Rattle.ga_one_run.proofs.printing.deliver.Goals as goal

pub returns-in-Ok-clause-calls : goal.returns-in-Ok-clause-calls
returns-in-Ok-clause-calls g c = outs_then (one_outs_call (create_call c.create.ensures.creates c.create.ensures.exact)) c.print-in-Ok.ensures.calls

pub returns-in-Err-clause-calls : goal.returns-in-Err-clause-calls
returns-in-Err-clause-calls g c = one_outs_call (create_call c.create.ensures.creates c.create.ensures.exact)
