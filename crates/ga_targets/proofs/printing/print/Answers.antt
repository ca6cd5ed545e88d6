use Rattle.std.proofs.Common.{arith, ℕ, length-take, ◌≤◌, ◌+◌, ◌≡◌, length, take, ap, subst, take_all, refl, length-drop}
use Rattle.ga_ports.specs.Trace.OutsCall.{write_call}
use Rattle.ga_ports.specs.Trace.OutsTrace.{no_outs_call, one_outs_call, outs_then}
use Rattle.ga_targets.specs.Printing.{printed}
use Rattle.ga_targets.proofs.Takes.{printed-nil, printed-after, fails-after, printed-all, starved-printed, starves, calls-later, to_end, front-more}
use Rattle.ga_targets.proofs.printing.print.Goals as goal

pub loop-at-init : goal.loop-at-init
loop-at-init g c = record { within = omega arith; later = omega arith; went = no_outs_call; taken = printed-nil c.args.to _ }

pub loop-at-preserved : goal.loop-at-preserved
loop-at-preserved g c =
    let ok = c.in-Ok.ensures.writes.ok in
    let rest = ap length (to_end c.loop-at.at c.args.bytes.now) in
    let within : c.loop-at.at + c.in-Ok.count ≤ length c.args.bytes.now = omega (arith, ok.0, rest, length-drop c.loop-at.at c.args.bytes.now) in
    record {
      within = within;
      later = calls-later c.args.to _ (g.O.Outs.view c.args.outs.now) (g.O.Outs.view c.loop-at.outs) _ c.loop-at.invariant.later ok.2;
      went = outs_then c.loop-at.invariant.went (one_outs_call (write_call c.write.ensures.writes c.write.ensures.exact));
      taken =
          subst (λ front. g.O.Outs.view c.write.new.self ≡ printed c.args.to front (g.O.Outs.view c.write.new.self).calls (g.O.Outs.view c.args.outs.now))
          (front-more c.loop-at.at c.in-Ok.count c.args.bytes.now) (printed-after c.args.to _ _ _ _ _ c.loop-at.invariant.taken ok.2);
    }

pub returns-in-Err-clause-prints : goal.returns-in-Err-clause-prints
returns-in-Err-clause-prints g c =
    let failed = c.in-Err.ensures.writes.failed.0 in
    let stops = fails-after c.args.to _ _ _ _ c.loop-at.invariant.taken failed in
    record {
      ok = tt;
      failed = record { early = omega arith; front = stops.0 };
      others = stops.1;
      starved = omega (arith, c.in-Err.ensures.writes.failed.1, starved-printed c.args.to (take c.loop-at.at c.args.bytes.now) (g.O.Outs.view c.args.outs.now) (g.O.Outs.view c.loop-at.outs) c.loop-at.invariant.taken);
      sure = λ can fed. absurd (fed (starves c.args.to (take c.loop-at.at c.args.bytes.now) _ (length c.args.bytes.now) _ (g.O.Outs.view c.args.outs.now) (g.O.Outs.view c.loop-at.outs) _
          c.loop-at.invariant.taken c.loop-at.invariant.later (omega (arith, length-take {A = ℕ})) c.in-Err.ensures.exact can));
    }

pub returns-in-Err-clause-calls : goal.returns-in-Err-clause-calls
returns-in-Err-clause-calls g c = outs_then c.loop-at.invariant.went (one_outs_call (write_call c.write.ensures.writes c.write.ensures.exact))

pub returns-clause-prints : goal.returns-clause-prints
returns-clause-prints g c =
    let all = take_all c.loop-at.at c.args.bytes.now (omega arith) in
    let whole =
    subst (λ front. g.O.Outs.view c.loop-at.outs ≡ printed c.args.to front (g.O.Outs.view c.loop-at.outs).calls (g.O.Outs.view c.args.outs.now)) all
    c.loop-at.invariant.taken in
    let done = printed-all c.args.to _ _ _ whole in
    record {
      ok = whole;
      failed = tt;
      others = done.1;
      starved = omega (arith, starved-printed c.args.to c.args.bytes.now (g.O.Outs.view c.args.outs.now) (g.O.Outs.view c.loop-at.outs) whole);
      sure = λ can fed. refl;
    }
