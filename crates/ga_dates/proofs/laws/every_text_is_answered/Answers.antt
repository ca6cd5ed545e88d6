use Rattle.ga_dates.proofs.EveryText.{every_text}
use Rattle.ga_dates.proofs.laws.every_text_is_answered.Goals as goal

pub returns : goal.returns
returns c = every_text
