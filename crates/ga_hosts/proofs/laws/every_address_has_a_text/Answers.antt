use Rattle.ga_hosts.proofs.EveryNumber.{every_address_has_a_text}
use Rattle.ga_hosts.proofs.laws.every_address_has_a_text.Goals as goal

pub returns : goal.returns
returns c = every_address_has_a_text
