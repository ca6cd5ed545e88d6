use Rattle.ga_words.proofs.ValueLemmas.{no-addresses}
use Rattle.ga_words.proofs.setting.add_range.Goals as goal

pub returns-in_default-clause-fault : goal.returns-in_default-clause-fault
returns-in_default-clause-fault c = no-addresses c.args.value.now c.args.at c.in_default.ensures
