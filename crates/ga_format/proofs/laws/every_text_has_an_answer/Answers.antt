use Rattle.ga_format.proofs.EveryText.{every_text}
use Rattle.ga_format.proofs.laws.every_text_has_an_answer.Goals as goal

pub returns : goal.returns
returns c = every_text
