-- A real target, which tells no content and no room.
use Rattle.std.specs.Prelude.{None}
use Rattle.ga_ports.specs.Outs.{TargetView}
use Rattle.ga_ports.specs.declared.target_counts.TargetCounts.{TargetCounts}

abbrev pub target_view : TargetCounts → TargetView
target_view c = record { bytes = None; taken = c.taken; faults = c.faults; room = None }
