use Rattle.ga_hosts.proofs.AddressLemmas.{found-address}
use Rattle.ga_hosts.proofs.address.is_address.Goals as goal

pub returns : goal.returns
returns c = found-address c.args.text.now c.address_of.result c.is_some.result c.address_of.ensures.found c.is_some.ensures
