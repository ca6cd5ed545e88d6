use Rattle.std.proofs.lemmas.Bool.{false≢true}
use Rattle.ga_requests.proofs.ExtensionLemmas.{extension-some, extension-none}
use Rattle.ga_requests.proofs.urls.has_extension.Goals as goal

pub returns-in-Some : goal.returns-in-Some
returns-in-Some c = extension-some c.args.path.now c.in-Some.dot c.is_extension.result c.in-Some.ensures c.is_extension.ensures

pub returns-in-None : goal.returns-in-None
returns-in-None c = (λ yes. absurd (false≢true yes), λ end. absurd (extension-none c.args.path.now c.in-None.ensures end))
