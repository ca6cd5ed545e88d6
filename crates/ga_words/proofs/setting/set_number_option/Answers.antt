use Rattle.ga_words.proofs.ValueLemmas.{no-number}
use Rattle.ga_words.proofs.setting.set_number_option.Goals as goal

pub returns-in_default-clause-fault : goal.returns-in_default-clause-fault
returns-in_default-clause-fault c = no-number c.args.value.now c.args.at c.args.number c.args.low c.args.high c.in_default.ensures
