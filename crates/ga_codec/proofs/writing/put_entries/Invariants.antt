use Rattle.std.proofs.Common.{map, take}
use Rattle.ga_codec.specs.Values.{entry_value}
use Rattle.ga_codec.specs.Steps.Parts.{Writes, times}
use Rattle.ga_codec.specs.Steps.Grammar.{entry}
use Rattle.ga_codec.proofs.writing.put_entries.Given as goal

abbrev pub invariant-loop-entry : goal.invariant-loop-entry
invariant-loop-entry l = Writes (times l.entry-index entry) (map entry_value (take l.entry-index l.entries)) l.initial.out.items l.out.items
