use Rattle.ga_format.proofs.EveryText.{every_items}
use Rattle.ga_format.proofs.laws.every_text_has_items.Goals as goal

pub returns : goal.returns
returns c = every_items
