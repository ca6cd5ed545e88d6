use Rattle.ga_words.proofs.JoinLemmas.{alone-other}
use Rattle.ga_words.proofs.joined_words.fault_alone.Goals as goal

pub returns-in_default : goal.returns-in_default
returns-in_default c = alone-other c.args.others c.args.fault (λ at is. c.in_default.not-Conflict at is)
