use Rattle.std.proofs.Common.{List, drop}
use Rattle.ga_line.specs.Fits.{Part}
use Rattle.ga_line.specs.Steps.Fitting.{AreNoted, AreReadTo}
use Rattle.ga_line.proofs.shapes.fit_leaves.Given as goal

abbrev pub invariant-loop-at : goal.invariant-loop-at
invariant-loop-at l = (before : List Part) × AreReadTo l.fn.leaves l.fn.pieces (drop l.at l.leaves) (drop l.at l.pieces) l.taken before × AreNoted before l.fields
