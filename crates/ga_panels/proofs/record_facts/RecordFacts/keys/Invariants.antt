use Rattle.std.proofs.Common.{◌≡◌, take}
use Rattle.std.specs.Prelude.{flat_map}
use Rattle.ga_panels.specs.Known.{facts_of, record_of, setup_of}
use Rattle.ga_panels.specs.Table.{keys_in}
use Rattle.ga_panels.proofs.record_facts.RecordFacts.keys.Given as goal

abbrev pub invariant-loop-panel : goal.invariant-loop-panel
invariant-loop-panel l = l.keys ≡ flat_map (keys_in (setup_of l.self) (record_of l.self) (facts_of l.self)) (take l.panel-index l.panel-items)
