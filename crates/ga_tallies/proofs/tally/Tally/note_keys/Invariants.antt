use Rattle.std.proofs.Common.{take}
use Rattle.std.specs.Prelude.{flat_map}
use Rattle.ga_panels.specs.Known.{facts_of, record_of, setup_of}
use Rattle.ga_panels.specs.Table.{keys_in}
use Rattle.ga_tallies.specs.Steps.Notes.{NotesKeys, number_in}
use Rattle.ga_tallies.proofs.tally.Tally.note_keys.Given as goal

-- the keys in the panels so far are noted
abbrev pub invariant-loop-panel : goal.invariant-loop-panel
invariant-loop-panel l = NotesKeys (flat_map (keys_in (setup_of l.facts) (record_of l.facts) (facts_of l.facts)) (take l.panel-index l.panel-items)) (number_in l.visit) l.line l.initial.self l.self
