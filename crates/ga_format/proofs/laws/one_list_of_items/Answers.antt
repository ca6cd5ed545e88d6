use Rattle.ga_format.proofs.Answering.{one_list}
use Rattle.ga_format.proofs.laws.one_list_of_items.Goals as goal

pub returns : goal.returns
returns c = one_list
