use Rattle.memchr.specs.Find.{is_byte}
use Rattle.ga_requests.proofs.PlaceLemmas.{before_some, before_none}
use Rattle.ga_requests.proofs.before_byte.before_byte.Goals as goal

pub returns-in-Some : goal.returns-in-Some
returns-in-Some c = before_some (is_byte c.args.stop) c.args.text.now c.in-Some.at c.in-Some.ensures

pub returns-in-None : goal.returns-in-None
returns-in-None c = before_none (is_byte c.args.stop) c.args.text.now c.in-None.ensures
