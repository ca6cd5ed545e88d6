use Rattle.ga_jsonlog.proofs.Leaves.{one-answer}
use Rattle.ga_jsonlog.proofs.laws.one_answer.Goals as goal

pub returns : goal.returns
returns c = one-answer c.one_list_of_items.ensures
