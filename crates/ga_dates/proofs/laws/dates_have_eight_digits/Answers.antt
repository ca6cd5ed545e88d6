use Rattle.ga_dates.proofs.OneSpelling.{date-bounds}
use Rattle.ga_dates.proofs.laws.dates_have_eight_digits.Goals as goal

pub returns : goal.returns
returns c = date-bounds
