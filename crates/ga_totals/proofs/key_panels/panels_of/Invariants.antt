use Rattle.std.proofs.Common.{◌≡◌, map, take}
use Rattle.ga_base.specs.declared.key.Key.{Key}
use Rattle.ga_totals.proofs.key_panels.panels_of.Given as goal

-- the panels so far
abbrev pub invariant-loop-number : goal.invariant-loop-number
invariant-loop-number l = l.panels.items ≡ map (λ (key : Key). key.panel) (take l.number l.fn.keys)
