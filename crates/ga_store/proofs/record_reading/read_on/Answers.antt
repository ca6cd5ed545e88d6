use Rattle.std.proofs.Common.{◌≡◌, ◌∙◌, ◌+◌, ◌++◌, ℕ, Bool, [], ap, refl, subst, arith}
use Rattle.std.proofs.lemmas.Result.{err_from_is_err_and}
use Rattle.ga_codec.specs.Values.{snapshot_value}
use Rattle.ga_store.specs.Database.{DbValue, of_snapshot}
use Rattle.ga_store.specs.Database.Reading.{damaged, stored}
use Rattle.ga_store.specs.Steps.Records.{SaysOn, SaysRecord}
use Rattle.ga_store.specs.Store.{db_value}
use Rattle.ga_store.specs.declared.starts.Said.TheVariants.{Damaged, Database}
use Rattle.ga_store.proofs.RecordLemmas.{gate-next, off-still, on-breaks, on-ends, on-none, on-then, took-still}
use Rattle.ga_store.proofs.RecoverDisk.{seen-same}
use Rattle.ga_store.proofs.Streaming.{streams-fail, took-none, took-then}
use Rattle.ga_store.proofs.TakenParts.{of-later}
use Rattle.ga_store.proofs.record_reading.read_on.Goals as goal

pub loop-growing-init : goal.loop-growing-init
loop-growing-init g c =
    let is : c.of-growing.result ≡ of_snapshot c.args.number c.args.first.next (snapshot_value c.args.first.snapshot) = c.of-growing.ensures ∙ c.of_first.ensures in
    let slot = ap (λ (d : DbValue). d.slot) is in
    let records = ap (λ (d : DbValue). d.records) is in
    record {
      taken = [];
      took = took-none _ _ _;
      on = on-none c.args.number c.args.stream.now c.of-growing.result (omega (arith, slot, c.requires.place)) (omega (arith, records));
      of = c.requires.told;
    }

pub returns-in_err-is_open : goal.returns-in_err-is_open
returns-in_err-is_open g c =
    let p = err_from_is_err_and c.from_residual.result c.from_residual.ensures.1 in
    rw (p.1, p.2) (streams-fail c.is_open.result _ c.in_err-is_open.was (g.D.Disk.counts_now c.args.disk.now) c.loop-growing.invariant.took c.is_open.ensures)

pub returns-in_err-take_record : goal.returns-in_err-take_record
returns-in_err-take_record g c =
    let p = err_from_is_err_and c.from_residual-in_err-take_record.result c.from_residual-in_err-take_record.ensures.1 in
    let law = g.D.Disk.counts_now c.args.disk.now in
    rw (p.1, p.2) (streams-fail c.take_record.result _ c.in_err-take_record.was law (took-then law c.loop-growing.invariant.took c.in_ok-is_open.ensures.took.1) c.take_record.ensures)

pub overflow_add-result : goal.overflow_add-result
overflow_add-result g c = omega (arith, c.loop-growing.invariant.on.place, c.loop-growing.invariant.of.fits)

pub returns-then-not-branch : goal.returns-then-not-branch
returns-then-not-branch g c =
    let law = g.D.Disk.counts_now c.args.disk.now in
    let before = c.loop-growing.invariant in
    let gate = c.in_ok-is_open.ensures.took in
    let last = c.in_ok-take_record.ensures.took in
    let took = took-then law (took-still before.taken gate.0 gate.2.none law before.took gate.1) last.1 in
    let none = subst (λ (b : Bool). SaysRecord c.take_record.new.stream c.loop-growing.growing c.take_record.new.growing b last.0) c.if-not-branch.true last.2 in
    let at = c.slot-slot.result + 1 in
    let says = on-breaks before.on (off-still gate.2.none gate.1.off) last.1.off (damaged c.args.number at) at c.take_record.new.growing refl (ap (λ (n : ℕ). n + 1) c.slot-slot.ensures)
    (gate-next c.is_open.new.stream c.in_ok-is_open.field-0 gate.0 c.if-branch.true gate.2) none in
    record {
      looks = took.looks;
      took = (
        before.taken ++ last.0,
        took,
        subst (λ (d : DbValue). SaysOn c.take_record.new.stream c.args.number d (Damaged c.args.number at) (before.taken ++ last.0)) (c.of-growing.ensures ∙ c.of_first.ensures) says,
      );
      outside = tt;
    }

pub loop-growing-preserved : goal.loop-growing-preserved
loop-growing-preserved g c =
    let law = g.D.Disk.counts_now c.args.disk.now in
    let before = c.loop-growing.invariant in
    let gate = c.in_ok-is_open.ensures.took in
    let last = c.in_ok-take_record.ensures.took in
    let new = subst (λ (b : Bool). SaysRecord c.take_record.new.stream c.loop-growing.growing c.take_record.new.growing b last.0) c.if-not-branch.false last.2 in
    record {
      taken = before.taken ++ last.0;
      took = took-then law (took-still before.taken gate.0 gate.2.none law before.took gate.1) last.1;
      on = on-then before.on (off-still gate.2.none gate.1.off) last.1.off c.take_record.new.growing new;
      of = of-later (seen-same last.1.looks) (of-later (seen-same gate.1.looks) before.of gate.1.off) last.1.off;
    }

pub returns-in_err-into_db : goal.returns-in_err-into_db
returns-in_err-into_db g c =
    let p = err_from_is_err_and c.from_residual-in_err-into_db.result c.from_residual-in_err-into_db.ensures.1 in
    let law = g.D.Disk.counts_now c.args.disk.now in
    let took = took-then law c.loop-growing.invariant.took c.in_ok-is_open.ensures.took.1 in
    rw (p.1, p.2) (record { looks = took.looks; took = tt; outside = tt })

pub returns : goal.returns
returns g c =
    let law = g.D.Disk.counts_now c.args.disk.now in
    let before = c.loop-growing.invariant in
    let gate = c.in_ok-is_open.ensures.took in
    let took = took-still before.taken gate.0 gate.2.none law before.took gate.1 in
    let is = ap stored c.in_ok-into_db.ensures in
    let says = on-ends before.on (off-still gate.2.none gate.1.off) (stored (db_value c.in_ok-into_db.field-0)) is (λ rest at. gate.2.says rest at ∙ c.if-branch.false) in
    record {
      looks = took.looks;
      took = (
        before.taken,
        took,
        subst (λ (d : DbValue). SaysOn c.is_open.new.stream c.args.number d (Database c.in_ok-into_db.field-0) before.taken) (c.of-growing.ensures ∙ c.of_first.ensures) says,
      );
      outside = tt;
    }
