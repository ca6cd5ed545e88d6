use Rattle.ga_disk.proofs.Crashed.{only-left}
use Rattle.ga_disk.proofs.laws.a_crash_is_settled.Goals as goal

pub returns : goal.returns
returns c = λ pick disk image now. only-left _ image now
