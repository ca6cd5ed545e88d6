use Rattle.std.proofs.Common.{◌≡◌, ◌++◌, drop, List, ℕ}
use Rattle.ga_print.specs.Csv.{panel_lines}
use Rattle.ga_print.specs.Steps.Writing.{HasWritten}
use Rattle.ga_print.proofs.csv_text.write_panels.Given as goal

abbrev pub invariant-loop-list : goal.invariant-loop-list
invariant-loop-list l =
    (text : List ℕ) → HasWritten text l.initial.writer
    → (now : List ℕ) × HasWritten now l.writer × (now ++ panel_lines (drop l.list-index l.lists) ≡ text ++ panel_lines l.lists)
