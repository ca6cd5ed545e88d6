use Rattle.std.proofs.Common.{◌≡◌, ◌≤◌, ◌++◌, ◌-◌, drop, length, List, ℕ}
use Rattle.ga_print.specs.Keys.{key_lines}
use Rattle.ga_print.specs.Steps.Writing.{HasWritten}
use Rattle.ga_print.proofs.keys_text.write_keys.Given as goal

abbrev pub invariant-loop-at : goal.invariant-loop-at
invariant-loop-at l = record {
  within : l.at ≤ length l.summary.rows;
  written : (text : List ℕ) → HasWritten text l.initial.writer
      → (now : List ℕ) × HasWritten now l.writer × (now ++ key_lines (drop l.at l.summary.rows) ≡ text ++ key_lines l.summary.rows);
}

abbrev pub decreases-loop-at : goal.decreases-loop-at
decreases-loop-at l = length l.summary.rows - l.at
