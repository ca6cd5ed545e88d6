use Rattle.ga_counters.proofs.Listing.{none-due}
use Rattle.ga_ports.proofs.laws.none_due.Goals as goal

pub returns : goal.returns
returns c = none-due
