use Rattle.std.proofs.Common.{map}
use Rattle.ga_codec.specs.Steps.Shapes.{shape_value}
use Rattle.ga_codec.specs.Steps.Grammar.{entry}
use Rattle.ga_codec.proofs.Looping.{HasRead}
use Rattle.ga_codec.proofs.cursor.Cursor.read_each_entry.Given as goal

abbrev pub invariant-loop : goal.invariant-loop
invariant-loop l = HasRead entry l.count l.counter (map shape_value l.entries.items) l.initial.self l.self
