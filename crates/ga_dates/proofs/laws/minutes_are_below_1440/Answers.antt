use Rattle.ga_dates.proofs.OneSpelling.{minute-bound}
use Rattle.ga_dates.proofs.laws.minutes_are_below_1440.Goals as goal

pub returns : goal.returns
returns c = minute-bound
