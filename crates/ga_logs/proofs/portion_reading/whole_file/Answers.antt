use Rattle.ga_ports.specs.Trace.FilesCall.{size_call}
use Rattle.ga_ports.specs.Trace.FilesTrace.{one_files_call}
use Rattle.ga_logs.proofs.portion_reading.whole_file.Goals as goal

pub returns-in_err-end-clause-calls : goal.returns-in_err-end-clause-calls
returns-in_err-end-clause-calls g c = one_files_call (size_call c.size.ensures.sizes c.size.ensures.exact)

pub returns-clause-calls : goal.returns-clause-calls
returns-clause-calls g c = one_files_call (size_call c.size.ensures.sizes c.size.ensures.exact)
