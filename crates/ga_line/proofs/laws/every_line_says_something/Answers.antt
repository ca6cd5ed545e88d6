use Rattle.ga_line.proofs.EveryLine.{says-something}
use Rattle.ga_line.proofs.laws.every_line_says_something.Goals as goal

pub returns : goal.returns
returns c = says-something c.every_line_has_pieces.ensures
