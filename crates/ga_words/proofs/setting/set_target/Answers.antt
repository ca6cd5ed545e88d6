use Rattle.ga_words.proofs.ValueLemmas.{no-target}
use Rattle.ga_words.proofs.setting.set_target.Goals as goal

pub returns-in_default-clause-fault : goal.returns-in_default-clause-fault
returns-in_default-clause-fault c = no-target c.args.value.now c.args.at c.in_default.ensures
