use Rattle.ga_logs.proofs.OneCourse.{one-portion}
use Rattle.ga_logs.proofs.laws.one_portion.Goals as goal

pub returns : goal.returns
returns c = one-portion c.one_choice.ensures
