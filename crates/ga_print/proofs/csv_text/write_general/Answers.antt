use Rattle.std.proofs.Common.{subst, List, ℕ}
use Rattle.ga_print.specs.Steps.Writing.{HasWritten}
use Rattle.ga_print.proofs.Lines.{six-lines}
use Rattle.ga_print.proofs.csv_text.write_general.Goals as goal

pub returns : goal.returns
returns c = λ text written.
    subst (λ (now : List ℕ). HasWritten now c.write_number-6.new.writer) (six-lines text _ _ _ _ _ _)
    (c.in_ok-write_number-6.ensures _ (c.in_ok-write_number-5.ensures _ (c.in_ok-write_number-4.ensures _ (c.in_ok-write_number-3.ensures _
    (c.in_ok-write_number-2.ensures _ (c.in_ok-write_number.ensures text written))))))
