use Rattle.ga_dates.proofs.OneSpelling.{time-unique}
use Rattle.ga_dates.proofs.laws.one_time.Goals as goal

pub returns : goal.returns
returns c = time-unique
