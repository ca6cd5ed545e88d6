use Rattle.std.proofs.Common.{take}
use Rattle.ga_tallies.specs.Steps.Absorbing.{AddsSuch, IsMappedItem}
use Rattle.ga_tallies.proofs.visiting.add_row.Given as goal

-- the visitors so far came to the row
abbrev pub invariant-loop-visitor : goal.invariant-loop-visitor
invariant-loop-visitor l = AddsSuch (IsMappedItem l.visitors (take l.visitor-index l.more)) l.fn.row.items l.row.items
