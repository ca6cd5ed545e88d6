use Rattle.std.proofs.Common.{ℕ, Option, subst}
use Rattle.std.proofs.lemmas.Result.{err_from_is_err_and}
use Rattle.ga_store.specs.Steps.Starts.{StartGoesOn}
use Rattle.ga_store.proofs.BothReads.{both-fail, took0, took01, took1, took10}
use Rattle.ga_store.proofs.side_reading.finish_both.Goals as goal

pub returns-in_err-start0 : goal.returns-in_err-start0
returns-in_err-start0 g c =
    let p = err_from_is_err_and c.from_residual-in_err-start0.result c.from_residual-in_err-start0.ensures.1 in
    let law = g.D.Disk.counts_now c.args.disk.now in
    let first = c.in_ok-start1.ensures.took in
    rw (p.1, p.2) (both-fail c.finish-then-lt.result _ c.in_err-start0.was law (took1 c.args.stream0.now first.1) c.finish-then-lt.ensures.looks c.in_err-start0.ensures.outside)

pub returns-then-lt : goal.returns-then-lt
returns-then-lt g c =
    let law = g.D.Disk.counts_now c.args.disk.now in
    let first = c.in_ok-start1.ensures.took in
    let second = c.in_ok-start0.ensures.took in
    let goes1 = subst (λ (o : Option ℕ). StartGoesOn c.args.stream1.now c.finish.new.stream c.args.begun1 o c.in_ok-start1.start1 first.0) c.number-number0.ensures first.2 in
    let goes0 = subst (λ (o : Option ℕ). StartGoesOn c.args.stream0.now c.finish-then-lt.new.stream c.args.begun0 o c.in_ok-start0.start0 second.0) c.number-number1.ensures second.2 in
    let took = took10 law first.1 second.1 in
    record {
      looks = took.looks;
      took = record { taken0 = second.0; taken1 = first.0; took = took; goes = record { placed0 = goes0.0; placed1 = goes1.0; says0 = goes0.1; says1 = goes1.1 } };
      outside = tt;
    }

pub returns-in_err-start1-2 : goal.returns-in_err-start1-2
returns-in_err-start1-2 g c =
    let p = err_from_is_err_and c.from_residual-in_err-start1-2.result c.from_residual-in_err-start1-2.ensures.1 in
    let law = g.D.Disk.counts_now c.args.disk.now in
    let first = c.in_ok-start0-2.ensures.took in
    rw (p.1, p.2) (both-fail c.finish-3.result _ c.in_err-start1-2.was law (took0 c.args.stream1.now first.1) c.finish-3.ensures.looks c.in_err-start1-2.ensures.outside)

pub returns : goal.returns
returns g c =
    let law = g.D.Disk.counts_now c.args.disk.now in
    let first = c.in_ok-start0-2.ensures.took in
    let second = c.in_ok-start1-2.ensures.took in
    let goes0 = subst (λ (o : Option ℕ). StartGoesOn c.args.stream0.now c.finish-2.new.stream c.args.begun0 o c.in_ok-start0-2.start0 first.0) c.number-number1.ensures first.2 in
    let goes1 = subst (λ (o : Option ℕ). StartGoesOn c.args.stream1.now c.finish-3.new.stream c.args.begun1 o c.in_ok-start1-2.start1 second.0) c.number-number0.ensures second.2 in
    let took = took01 law first.1 second.1 in
    record {
      looks = took.looks;
      took = record { taken0 = first.0; taken1 = second.0; took = took; goes = record { placed0 = goes0.0; placed1 = goes1.0; says0 = goes0.1; says1 = goes1.1 } };
      outside = tt;
    }
