use Rattle.ga_one_run.proofs.Runs.{one-setup}
use Rattle.ga_one_run.proofs.WordLaw.{one-words}
use Rattle.ga_one_run.proofs.laws.one_setup.Goals as goal

pub returns : goal.returns
returns c = one-setup (one-words c.joined_words.ensures.one) c.one_outcome.ensures
