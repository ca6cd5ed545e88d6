use Rattle.ga_disk.proofs.Crashed.{left-both}
use Rattle.ga_disk.proofs.laws.a_crash_leaves_an_image.Goals as goal

pub returns : goal.returns
returns c = left-both
