use Rattle.std.proofs.Common.{◌≡◌, length, take}
use Rattle.ga_base.specs.declared.panel.TheConstants.Panel.{COUNT}
use Rattle.ga_totals.specs.Steps.Sources.{AreSizes}
use Rattle.ga_totals.proofs.key_panels.sizes_of.Given as goal

-- the sizes so far
abbrev pub invariant-loop-panel : goal.invariant-loop-panel
invariant-loop-panel l = (length l.sizes ≡ COUNT) × AreSizes (take l.panel-index l.panels) l.sizes
