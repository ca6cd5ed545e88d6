use Rattle.std.proofs.Common.{ap, arith}
use Rattle.std.proofs.lemmas.Grind.{common_steps}
use Rattle.ga_ports.specs.Outs.{OutsView}
use Rattle.ga_ports.specs.declared.outs.To.TheVariants.{Stderr}
use Rattle.ga_ports.specs.Trace.OutsTrace.{no_outs_call, outs_then}
use Rattle.ga_targets.proofs.Takes.{printed-nil, joined-at, stops-in}
use Rattle.ga_targets.proofs.saying.say.Goals as goal

pub loop-piece-init : goal.loop-piece-init
loop-piece-init g c = record { taken = printed-nil Stderr _; went = no_outs_call }

pub loop-piece-preserved : goal.loop-piece-preserved
loop-piece-preserved g c = record {
  taken = grind (arith, common_steps);
  went = outs_then c.loop-piece.invariant.went c.print.ensures.calls;
}

pub returns-in-Err-clause-line : goal.returns-in-Err-clause-line
returns-in-Err-clause-line g c =
    stops-in _ _ _ _ c.in-Err.field-0 _ (g.O.Outs.view c.loop-piece.outs).stderr _ (ap (λ (v : OutsView). v.stderr) c.loop-piece.invariant.taken)
    (joined-at (λ piece. piece.now) c.args.pieces.now c.loop-piece.piece-index _ c.loop-piece-test.true) c.in-Err.ensures.prints.failed

pub returns-in-Err-clause-calls : goal.returns-in-Err-clause-calls
returns-in-Err-clause-calls g c = outs_then c.loop-piece.invariant.went c.print.ensures.calls
