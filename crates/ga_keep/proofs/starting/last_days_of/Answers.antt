use Rattle.std.proofs.Common.{refl}
use Rattle.ga_keep.proofs.starting.last_days_of.Goals as goal

pub returns : goal.returns
returns c = (c.in_ok-whole.whole, c.in_ok-whole.ensures, c.trim.ensures, refl)
