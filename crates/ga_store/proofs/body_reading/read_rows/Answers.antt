use Rattle.std.proofs.Common.{◌++◌, [], Bool, subst, arith}
use Rattle.std.proofs.lemmas.Result.{err_from_is_err_and}
use Rattle.ga_store.specs.Steps.Bodies.{SaysNext}
use Rattle.ga_store.proofs.BodyReads.{lacks-before, read-none, read-then}
use Rattle.ga_store.proofs.RecoverDisk.{seen-same}
use Rattle.ga_store.proofs.Streaming.{streams-fail, took-none, took-then}
use Rattle.ga_store.proofs.TakenParts.{of-later}
use Rattle.ga_store.proofs.body_reading.read_rows.Goals as goal

pub loop-disk-init : goal.loop-disk-init
loop-disk-init g c = record { taken = []; took = took-none _ _ _; has = read-none c.args.body.now c.requires.hashed; of = c.requires.told; room = c.requires.room }

pub returns-in_err-read_next : goal.returns-in_err-read_next
returns-in_err-read_next g c =
    let p = err_from_is_err_and c.from_residual.result c.from_residual.ensures.1 in
    rw (p.1, p.2) (streams-fail c.read_next.result _ c.in_err-read_next.was (g.D.Disk.counts_now c.args.disk.now) c.loop-disk.invariant.took c.read_next.ensures)

pub returns-then-not-branch : goal.returns-then-not-branch
returns-then-not-branch g c =
    let law = g.D.Disk.counts_now c.args.disk.now in
    let inv = c.loop-disk.invariant in
    let next = c.in_ok-read_next.ensures.took in
    let says = subst (λ (b : Bool). SaysNext c.loop-disk.stream c.read_next.new.stream c.loop-disk.body c.read_next.new.body b next.0) c.if-not-branch.true next.2 in
    let took = took-then law inv.took next.1 in
    record {
      looks = took.looks;
      took = (inv.taken ++ next.0, took, λ rest is. lacks-before c.args.body.now c.loop-disk.body inv.taken next.0 rest inv.has (says rest is));
      outside = tt;
    }

pub loop-disk-preserved : goal.loop-disk-preserved
loop-disk-preserved g c =
    let law = g.D.Disk.counts_now c.args.disk.now in
    let inv = c.loop-disk.invariant in
    let next = c.in_ok-read_next.ensures.took in
    let says = subst (λ (b : Bool). SaysNext c.loop-disk.stream c.read_next.new.stream c.loop-disk.body c.read_next.new.body b next.0) c.if-not-branch.false next.2 in
    record {
      taken = inv.taken ++ next.0;
      took = took-then law inv.took next.1;
      has = read-then c.args.body.now c.loop-disk.body c.read_next.new.body inv.taken next.0 inv.has says.has;
      of = of-later (seen-same next.1.looks) inv.of next.1.off;
      room = omega (arith, inv.room, says.has.left, next.1.off.long);
    }
