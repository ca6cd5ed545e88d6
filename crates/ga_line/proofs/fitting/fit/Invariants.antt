use Rattle.std.proofs.Common.{List, ◌++◌, drop}
use Rattle.ga_line.specs.Fits.{Part}
use Rattle.ga_line.specs.Steps.Fitting.{IsReadTo, AreNoted}
use Rattle.ga_line.proofs.fitting.fit.Given as goal

abbrev pub invariant-loop-at : goal.invariant-loop-at
invariant-loop-at l = (before : List Part) × IsReadTo l.fn.items l.fn.line (drop l.at l.items) l.rest before
    × ((first : List Part) → AreNoted first l.initial.fields → AreNoted (first ++ before) l.fields)
