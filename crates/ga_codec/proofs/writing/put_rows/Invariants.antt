use Rattle.std.proofs.Common.{take}
use Rattle.ga_codec.specs.Steps.Parts.{Writes, times}
use Rattle.ga_codec.specs.Steps.Grammar.{row}
use Rattle.ga_codec.proofs.writing.put_rows.Given as goal

abbrev pub invariant-loop-at : goal.invariant-loop-at
invariant-loop-at l = Writes (times l.at row) (take l.at l.summary.rows) l.initial.out.items l.out.items
