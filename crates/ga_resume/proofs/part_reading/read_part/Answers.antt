use Rattle.ga_ports.specs.Trace.FilesTrace.{no_files_call}
use Rattle.ga_resume.proofs.part_reading.read_part.Goals as goal

pub returns-in_err-buffer-clause-calls : goal.returns-in_err-buffer-clause-calls
returns-in_err-buffer-clause-calls g c = no_files_call
