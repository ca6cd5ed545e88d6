use Rattle.std.proofs.Common.{◌≡◌, ◌≤◌, ◌*◌, ◌^◌, ◌++◌, drop, List, ℕ}
use Rattle.ga_print.specs.Csv.{row_lines}
use Rattle.ga_print.specs.Steps.Writing.{HasWritten}
use Rattle.ga_print.proofs.csv_text.write_rows.Given as goal

abbrev pub invariant-loop-row : goal.invariant-loop-row
invariant-loop-row l = record {
  below : l.id ≤ l.row-index * 2 ^ 64;
  written : (text : List ℕ) → HasWritten text l.initial.writer
      → (now : List ℕ) × HasWritten now l.writer × (now ++ row_lines l.panel l.id (drop l.row-index l.rows) ≡ text ++ row_lines l.panel 0 l.rows);
}
