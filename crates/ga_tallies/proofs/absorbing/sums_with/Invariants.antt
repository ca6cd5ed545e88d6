use Rattle.std.proofs.Common.{◌≡◌, take}
use Rattle.ga_tallies.specs.Steps.Absorbing.{rows_added}
use Rattle.ga_tallies.proofs.absorbing.sums_with.Given as goal

-- the rows of the numbers so far were added
abbrev pub invariant-loop-place : goal.invariant-loop-place
invariant-loop-place l = l.rows.items ≡ rows_added (take l.place l.numbers) l.more l.fn.rows.items
