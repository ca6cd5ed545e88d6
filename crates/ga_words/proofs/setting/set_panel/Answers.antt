use Rattle.std.proofs.Common.{sym}
use Rattle.ga_words.proofs.ValueLemmas.{no-panel}
use Rattle.ga_words.proofs.setting.set_panel.Goals as goal

pub returns-in_default-clause-fault : goal.returns-in_default-clause-fault
returns-in_default-clause-fault c = no-panel c.args.value.now c.args.at c.args.on (sym c.in_default.ensures)
