use Rattle.ga_jsonlog.proofs.PieceLemmas.{every-pieces}
use Rattle.ga_jsonlog.proofs.laws.every_line_has_pieces.Goals as goal

pub returns : goal.returns
returns c = every-pieces
