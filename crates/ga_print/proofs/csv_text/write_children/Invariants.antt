use Rattle.std.proofs.Common.{◌≡◌, ◌+◌, ◌++◌, suc, drop, List, ℕ}
use Rattle.ga_print.specs.Csv.{child_lines}
use Rattle.ga_print.specs.Steps.Writing.{HasWritten}
use Rattle.ga_print.proofs.csv_text.write_children.Given as goal

abbrev pub invariant-loop-child : goal.invariant-loop-child
invariant-loop-child l = record {
  counts : l.id ≡ l.parent_id + l.child-index;
  written : (text : List ℕ) → HasWritten text l.initial.writer
      → (now : List ℕ) × HasWritten now l.writer
      × (now ++ child_lines l.panel l.parent_id (suc l.id) (drop l.child-index l.children) ≡ text ++ child_lines l.panel l.parent_id (suc l.parent_id) l.children);
}
