use Rattle.ga_line.proofs.ShapeTexts.{every-shape}
use Rattle.ga_line.proofs.laws.every_text_has_a_shape.Goals as goal

pub returns : goal.returns
returns c = every-shape c.every_text_has_an_answer.ensures c.every_text_has_an_answer-2.ensures
