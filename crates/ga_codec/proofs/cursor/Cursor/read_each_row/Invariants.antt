use Rattle.ga_summary.specs.SummaryParts.{rows_in}
use Rattle.ga_codec.specs.Steps.Grammar.{row}
use Rattle.ga_codec.proofs.Looping.{HasRead}
use Rattle.ga_codec.proofs.cursor.Cursor.read_each_row.Given as goal

abbrev pub invariant-loop : goal.invariant-loop
invariant-loop l = HasRead row l.count l.counter (rows_in l.rows.items) l.initial.self l.self
