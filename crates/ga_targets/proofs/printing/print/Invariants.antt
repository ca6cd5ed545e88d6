use Rattle.std.proofs.Common.{length, take, ◌-◌, ◌≡◌, ◌≤◌}
use Rattle.ga_ports.specs.Trace.{OutsTrace}
use Rattle.ga_targets.specs.Printing.{printed}
use Rattle.ga_targets.proofs.printing.print.Given as goal

abbrev pub invariant-loop-at : goal.invariant-loop-at
invariant-loop-at g l = record {
  within : l.at ≤ length l.bytes;
  later : (g.O.Outs.view l.initial.outs).calls ≤ (g.O.Outs.view l.outs).calls;
  went : OutsTrace (g.O.Outs.view l.initial.outs) (g.O.Outs.view l.outs);
  taken : g.O.Outs.view l.outs ≡ printed l.to (take l.at l.bytes) (g.O.Outs.view l.outs).calls (g.O.Outs.view l.initial.outs);
}

abbrev pub decreases-loop-at : goal.decreases-loop-at
decreases-loop-at g l = length l.bytes - l.at
