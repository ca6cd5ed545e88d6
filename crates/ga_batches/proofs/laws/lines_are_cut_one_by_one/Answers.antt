use Rattle.ga_batches.proofs.Cutting.{cuts-each-piece, cuts-once, cuts-apart}
use Rattle.ga_batches.proofs.laws.lines_are_cut_one_by_one.Goals as goal

pub returns-clause-pieces : goal.returns-clause-pieces
returns-clause-pieces c = cuts-each-piece

pub returns-clause-once : goal.returns-clause-once
returns-clause-once c = cuts-once

pub returns-clause-apart : goal.returns-clause-apart
returns-clause-apart c = cuts-apart
