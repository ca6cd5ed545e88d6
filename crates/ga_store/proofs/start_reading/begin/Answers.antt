use Rattle.std.proofs.Common.{◌≡◌, ℕ, [], ◌∷◌, ◌++◌, Bool, Option, refl, ap, ◌∙◌, subst, arith}
use Rattle.std.proofs.lemmas.Result.{err_from_is_err_and}
use Rattle.ga_codec.specs.Pieces.{BodyFront}
use Rattle.ga_codec.specs.Spelling.{eight_bytes}
use Rattle.ga_store.specs.SideParts.{open_gate}
use Rattle.ga_store.specs.Steps.Bodies.{SaysNext}
use Rattle.ga_store.specs.Steps.SideParts.{SaysGate, SaysSize}
use Rattle.ga_store.specs.declared.body_reading.OpenBody.{OpenBody}
use Rattle.ga_store.proofs.StartReads.{begun-is, lacks-begun, no-part, open-size}
use Rattle.ga_store.proofs.Streaming.{streams-fail, took-as, took-then}
use Rattle.ga_store.proofs.start_reading.begin.Goals as goal

pub returns-in_err-size : goal.returns-in_err-size
returns-in_err-size g c =
    let p = err_from_is_err_and c.from_residual-in_err-size.result c.from_residual-in_err-size.ensures.1 in
    let law = g.D.Disk.counts_now c.args.disk.now in
    let opened = c.in_ok-is_open.ensures.took in
    let gate = subst (λ (b : Bool). SaysGate c.is_open.new.stream b opened.0) c.if-not-branch.false opened.2 in
    let first = took-as opened.0 [] gate.none opened.1 in
    rw (p.1, p.2) (streams-fail c.take_size.result _ c.in_err-size.was law first c.take_size.ensures)

pub returns-in_default : goal.returns-in_default
returns-in_default g c =
    let law = g.D.Disk.counts_now c.args.disk.now in
    let opened = c.in_ok-is_open.ensures.took in
    let gate = subst (λ (b : Bool). SaysGate c.is_open.new.stream b opened.0) c.if-not-branch.false opened.2 in
    let first = took-as opened.0 [] gate.none opened.1 in
    let sized = c.in_ok-size.ensures.took in
    let none = subst (λ (o : Option ℕ). SaysSize c.take_size.new.stream o sized.0) c.in_default.is sized.2 in
    let second = took-then law first sized.1 in
    record {
      looks = second.looks;
      took = (sized.0, second, λ rest at. no-part (g.D.Disk.view c.is_open.new.disk).seen c.is_open.new.stream c.take_size.new.stream opened.0 sized.0 rest gate sized.1.off at (none rest at));
      outside = tt;
    }

pub returns-in_err-read_next : goal.returns-in_err-read_next
returns-in_err-read_next g c =
    let p = err_from_is_err_and c.from_residual-in_err-read_next.result c.from_residual-in_err-read_next.ensures.1 in
    let law = g.D.Disk.counts_now c.args.disk.now in
    let opened = c.in_ok-is_open.ensures.took in
    let gate = subst (λ (b : Bool). SaysGate c.is_open.new.stream b opened.0) c.if-not-branch.false opened.2 in
    let first = took-as opened.0 [] gate.none opened.1 in
    let sized = c.in_ok-size.ensures.took in
    let has = subst (λ (o : Option ℕ). SaysSize c.take_size.new.stream o sized.0) c.in-Some.is sized.2 in
    let size = c.in-Some.size in
    let is : sized.0 ≡ open_gate ∷ eight_bytes size = open-size (g.D.Disk.view c.is_open.new.disk).seen c.is_open.new.stream c.take_size.new.stream size opened.0 sized.0 gate sized.1.off has in
    let second = took-then law first sized.1 in
    rw (p.1, p.2) (streams-fail c.read_next.result _ c.in_err-read_next.was law second c.read_next.ensures)

pub returns-then-branch : goal.returns-then-branch
returns-then-branch g c =
    let law = g.D.Disk.counts_now c.args.disk.now in
    let opened = c.in_ok-is_open.ensures.took in
    let gate = subst (λ (b : Bool). SaysGate c.is_open.new.stream b opened.0) c.if-not-branch.false opened.2 in
    let first = took-as opened.0 [] gate.none opened.1 in
    let sized = c.in_ok-size.ensures.took in
    let has = subst (λ (o : Option ℕ). SaysSize c.take_size.new.stream o sized.0) c.in-Some.is sized.2 in
    let size = c.in-Some.size in
    let is : sized.0 ≡ open_gate ∷ eight_bytes size = open-size (g.D.Disk.view c.is_open.new.disk).seen c.is_open.new.stream c.take_size.new.stream size opened.0 sized.0 gate sized.1.off has in
    let second = took-then law first sized.1 in
    let old : OpenBody = record { reader = c.of_snapshot.result; digest = c.new.result; left = size } in
    let next = c.in_ok-read_next.ensures.took in
    let says = subst (λ (b : Bool). SaysNext c.take_size.new.stream c.read_next.new.stream old c.read_next.new.body b next.0) c.if-branch.true next.2 in
    let third = took-then law second next.1 in
    record {
      looks = third.looks;
      took = (
        sized.0 ++ next.0,
        third,
        (
          begun-is old c.read_next.new.body size sized.0 next.0 refl c.of_snapshot.ensures is has.fits says.has,
          record {
            kind = says.has.kind ∙ ap (λ (r : BodyFront). r.is_snapshot) c.of_snapshot.ensures;
            hashed = says.has.hashed;
            room = omega (arith, has.room, next.1.off.long, says.has.left);
          },
        ),
      );
      outside = tt;
    }

pub returns-else-branch : goal.returns-else-branch
returns-else-branch g c =
    let law = g.D.Disk.counts_now c.args.disk.now in
    let opened = c.in_ok-is_open.ensures.took in
    let gate = subst (λ (b : Bool). SaysGate c.is_open.new.stream b opened.0) c.if-not-branch.false opened.2 in
    let first = took-as opened.0 [] gate.none opened.1 in
    let sized = c.in_ok-size.ensures.took in
    let has = subst (λ (o : Option ℕ). SaysSize c.take_size.new.stream o sized.0) c.in-Some.is sized.2 in
    let size = c.in-Some.size in
    let is : sized.0 ≡ open_gate ∷ eight_bytes size = open-size (g.D.Disk.view c.is_open.new.disk).seen c.is_open.new.stream c.take_size.new.stream size opened.0 sized.0 gate sized.1.off has in
    let second = took-then law first sized.1 in
    let old : OpenBody = record { reader = c.of_snapshot.result; digest = c.new.result; left = size } in
    let next = c.in_ok-read_next.ensures.took in
    let says = subst (λ (b : Bool). SaysNext c.take_size.new.stream c.read_next.new.stream old c.read_next.new.body b next.0) c.if-branch.false next.2 in
    let third = took-then law second next.1 in
    record {
      looks = third.looks;
      took = (sized.0 ++ next.0, third, λ rest at. lacks-begun old size sized.0 next.0 rest refl c.of_snapshot.ensures is has.fits (says rest at));
      outside = tt;
    }
