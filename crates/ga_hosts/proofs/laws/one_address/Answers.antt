use Rattle.ga_hosts.proofs.AddressLemmas.{one_address}
use Rattle.ga_hosts.proofs.laws.one_address.Goals as goal

pub returns : goal.returns
returns c = one_address
