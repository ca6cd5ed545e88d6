use Rattle.ga_resume.proofs.AChoice.{a-choice}
use Rattle.ga_resume.proofs.laws.a_choice_exists.Goals as goal

pub returns : goal.returns
returns c = λ entries front end. a-choice front end entries
