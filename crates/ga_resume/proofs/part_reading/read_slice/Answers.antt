use Rattle.ga_ports.specs.Trace.FilesCall.{read_call}
use Rattle.ga_ports.specs.Trace.FilesTrace.{one_files_call}
use Rattle.ga_resume.proofs.part_reading.read_slice.Goals as goal

pub returns-in_err-count-clause-calls : goal.returns-in_err-count-clause-calls
returns-in_err-count-clause-calls g c = one_files_call (read_call c.read_at.ensures.reads c.read_at.ensures.exact)

pub returns-then-count-eq0-clause-calls : goal.returns-then-count-eq0-clause-calls
returns-then-count-eq0-clause-calls g c = one_files_call (read_call c.read_at.ensures.reads c.read_at.ensures.exact)

pub returns-clause-calls : goal.returns-clause-calls
returns-clause-calls g c = one_files_call (read_call c.read_at.ensures.reads c.read_at.ensures.exact)
