use Rattle.ga_line.proofs.LineLemmas.{lines-append}
use Rattle.ga_line.proofs.laws.lines_added.Goals as goal

pub returns : goal.returns
returns c = lines-append
