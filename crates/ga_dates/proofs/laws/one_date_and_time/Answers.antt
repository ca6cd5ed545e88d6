use Rattle.ga_dates.proofs.OneSpelling.{both-unique}
use Rattle.ga_dates.proofs.laws.one_date_and_time.Goals as goal

pub returns : goal.returns
returns c = both-unique
