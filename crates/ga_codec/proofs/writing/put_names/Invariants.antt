use Rattle.std.proofs.Common.{take}
use Rattle.ga_codec.specs.Steps.Parts.{Writes, times}
use Rattle.ga_codec.specs.Steps.Grammar.{name}
use Rattle.ga_codec.proofs.writing.put_names.Given as goal

abbrev pub invariant-loop-name : goal.invariant-loop-name
invariant-loop-name l = Writes (times l.name-index name) (take l.name-index l.names) l.initial.out.items l.out.items
