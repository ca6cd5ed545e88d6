use Rattle.ga_ports.specs.Trace.FilesCall.{open_call}
use Rattle.ga_ports.specs.Trace.FilesTrace.{one_files_call, files_then}
use Rattle.ga_logs.proofs.portion_reading.open_log.Goals as goal

pub returns-in_err-open-clause-calls : goal.returns-in_err-open-clause-calls
returns-in_err-open-clause-calls g c = one_files_call (open_call c.open.ensures.opens c.open.ensures.exact)

pub returns-clause-calls : goal.returns-clause-calls
returns-clause-calls g c = files_then (one_files_call (open_call c.open.ensures.opens c.open.ensures.exact)) c.begin_file.ensures.calls
