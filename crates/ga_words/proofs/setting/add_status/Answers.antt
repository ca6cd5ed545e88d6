use Rattle.ga_words.proofs.ValueLemmas.{no-status}
use Rattle.ga_words.proofs.setting.add_status.Goals as goal

pub returns-in_default-clause-fault : goal.returns-in_default-clause-fault
returns-in_default-clause-fault c = no-status c.args.value.now c.args.at c.in_default.ensures
