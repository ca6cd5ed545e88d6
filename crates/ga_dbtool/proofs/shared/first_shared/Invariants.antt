use Rattle.std.proofs.Common.{◌<◌, ◌≤◌, ◌-◌, length, map, ℕ}
use Rattle.ga_codec.specs.Values.{entry_value}
use Rattle.ga_dbtool.specs.Merged.{ShareAt}
use Rattle.ga_dbtool.proofs.shared.first_shared.Given as goal

abbrev pub invariant-loop-at : goal.invariant-loop-at
invariant-loop-at l = record {
  within : l.at ≤ length l.left;
  none : (i j : ℕ) → i < l.at → ¬ ShareAt (map entry_value l.left) (map entry_value l.right) i j;
}

abbrev pub decreases-loop-at : goal.decreases-loop-at
decreases-loop-at l = length l.left - l.at
