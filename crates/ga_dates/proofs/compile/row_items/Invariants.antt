use Rattle.std.proofs.Common.{List, take, length, ◌-◌, ◌≤◌}
use Rattle.ga_dates.specs.Grammar.{Token, IsRow}
use Rattle.ga_dates.proofs.compile.row_items.Given as goal

abbrev pub invariant-loop-at : goal.invariant-loop-at
invariant-loop-at l = record { inside : l.at ≤ length l.text; row : (tokens : List Token) × IsRow l.kind tokens (take l.at l.text) l.items.items }

abbrev pub decreases-loop-at : goal.decreases-loop-at
decreases-loop-at l = length l.text - l.at
