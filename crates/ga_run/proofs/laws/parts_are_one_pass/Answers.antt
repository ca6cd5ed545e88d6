use Rattle.ga_run.proofs.OnePass.{one-pass}
use Rattle.ga_run.proofs.laws.parts_are_one_pass.Goals as goal

pub returns : goal.returns
returns c = λ log parts h. one-pass c.lines_added.ensures log parts h
