use Rattle.ga_line.proofs.ShapeTexts.{one-shape}
use Rattle.ga_line.proofs.laws.one_shape.Goals as goal

pub returns : goal.returns
returns c = one-shape c.one_answer.ensures c.one_answer-2.ensures
