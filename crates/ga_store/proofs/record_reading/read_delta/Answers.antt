use Rattle.std.proofs.Common.{ℕ, ◌++◌, Bool, Option, refl, subst}
use Rattle.std.proofs.lemmas.Result.{err_from_is_err_and}
use Rattle.ga_store.specs.Steps.Bodies.{SaysRows}
use Rattle.ga_store.specs.Steps.SideParts.{SaysSize}
use Rattle.ga_store.specs.declared.body_reading.OpenBody.{OpenBody}
use Rattle.ga_store.proofs.RecordLemmas.{record-says, rows-lack, size-none}
use Rattle.ga_store.proofs.Streaming.{streams-fail, streams-then, took-then}
use Rattle.ga_store.proofs.record_reading.read_delta.Goals as goal

pub returns-in_default : goal.returns-in_default
returns-in_default g c =
    let first = c.in_ok-size.ensures.took in
    record {
      looks = c.in_ok-size.ensures.looks;
      took = (first.0, first.1, size-none c.take_size.new.stream c.in_ok-size.field-0 first.0 c.in_default.is first.2);
      outside = tt;
    }

pub returns-in_err-read_rows : goal.returns-in_err-read_rows
returns-in_err-read_rows g c =
    let p = err_from_is_err_and c.from_residual-in_err-read_rows.result c.from_residual-in_err-read_rows.ensures.1 in
    rw (p.1, p.2) (streams-fail c.read_rows.result _ c.in_err-read_rows.was (g.D.Disk.counts_now c.args.disk.now) c.in_ok-size.ensures.took.1 c.read_rows.ensures)

pub returns-then-not-branch : goal.returns-then-not-branch
returns-then-not-branch g c =
    let first = c.in_ok-size.ensures.took in
    let rows = c.in_ok-read_rows.ensures.took in
    let start : OpenBody = record { reader = c.of_delta.result; digest = c.new.result; left = c.in-Some.size } in
    let has = subst (λ (o : Option ℕ). SaysSize c.take_size.new.stream o first.0) c.in-Some.is first.2 in
    let lacks = subst (λ (b : Bool). SaysRows c.read_rows.new.stream start c.read_rows.new.body b rows.0) c.if-not-branch.true rows.2 in
    let took = took-then (g.D.Disk.counts_now c.args.disk.now) first.1 rows.1 in
    record {
      looks = took.looks;
      took = (first.0 ++ rows.0, took, λ rest is. rows-lack c.take_size.new.stream start c.in-Some.size first.0 c.of_delta.ensures refl has rows.0 rest (lacks rest is));
      outside = tt;
    }

pub returns : goal.returns
returns g c =
    let law = g.D.Disk.counts_now c.args.disk.now in
    let first = c.in_ok-size.ensures.took in
    let rows = c.in_ok-read_rows.ensures.took in
    let start : OpenBody = record { reader = c.of_delta.result; digest = c.new.result; left = c.in-Some.size } in
    let has = subst (λ (o : Option ℕ). SaysSize c.take_size.new.stream o first.0) c.in-Some.is first.2 in
    let read = subst (λ (b : Bool). SaysRows c.read_rows.new.stream start c.read_rows.new.body b rows.0) c.if-not-branch.false rows.2 in
    streams-then c.finish_delta.result law (took-then law first.1 rows.1) c.finish_delta.ensures
    (λ delta more is says. record-says c.take_size.new.stream start c.in-Some.size first.0 c.of_delta.ensures refl has c.read_rows.new.body rows.0 read.0
    c.finish_delta.new.stream delta more says)
