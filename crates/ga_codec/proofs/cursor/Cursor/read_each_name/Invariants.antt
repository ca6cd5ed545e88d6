use Rattle.ga_codec.specs.Steps.Grammar.{name}
use Rattle.ga_codec.proofs.Looping.{HasRead}
use Rattle.ga_codec.proofs.cursor.Cursor.read_each_name.Given as goal

abbrev pub invariant-loop : goal.invariant-loop
invariant-loop l = HasRead name l.count l.counter l.names.items l.initial.self l.self
