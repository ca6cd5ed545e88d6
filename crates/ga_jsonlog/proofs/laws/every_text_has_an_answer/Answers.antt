use Rattle.ga_jsonlog.proofs.Leaves.{every-answer}
use Rattle.ga_jsonlog.proofs.laws.every_text_has_an_answer.Goals as goal

pub returns : goal.returns
returns c = every-answer c.every_text_has_items.ensures
