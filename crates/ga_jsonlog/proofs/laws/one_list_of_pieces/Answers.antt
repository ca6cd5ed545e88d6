use Rattle.ga_jsonlog.proofs.PieceLemmas.{one-pieces}
use Rattle.ga_jsonlog.proofs.laws.one_list_of_pieces.Goals as goal

pub returns : goal.returns
returns c = one-pieces
