use Rattle.ga_dates.proofs.OneSpelling.{date-unique}
use Rattle.ga_dates.proofs.laws.one_date.Goals as goal

pub returns : goal.returns
returns c = date-unique
