use Rattle.std.proofs.Common.{◌≡◌, map, take}
use Rattle.ga_ports.specs.declared.outs.To.TheVariants.{Stderr}
use Rattle.ga_ports.specs.Trace.{OutsTrace}
use Rattle.ga_targets.specs.Printing.{printed}
use Rattle.ga_targets.specs.Printing.{joined}
use Rattle.ga_targets.proofs.saying.say.Given as goal

abbrev pub invariant-loop-piece : goal.invariant-loop-piece
invariant-loop-piece g l = record {
  taken : g.O.Outs.view l.outs
      ≡ printed Stderr (joined (map (λ piece. piece.now) (take l.piece-index l.pieces))) (g.O.Outs.view l.outs).calls (g.O.Outs.view l.initial.outs);
  went : OutsTrace (g.O.Outs.view l.initial.outs) (g.O.Outs.view l.outs);
}
