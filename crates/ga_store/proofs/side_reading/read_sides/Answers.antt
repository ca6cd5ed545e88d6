use Rattle.std.proofs.lemmas.Result.{err_from_is_err_and}
use Rattle.ga_store.specs.Steps.BothStreams.{Pair}
use Rattle.ga_store.proofs.BothReads.{all-say, both-fail, both-go, both-then, took0, took01}
use Rattle.ga_store.proofs.side_reading.read_sides.Goals as goal

pub returns-in_err-begun1 : goal.returns-in_err-begun1
returns-in_err-begun1 g c =
    let p = err_from_is_err_and c.from_residual-in_err-begun1.result c.from_residual-in_err-begun1.ensures.1 in
    let law = g.D.Disk.counts_now c.args.disk.now in
    let first = c.in_ok-begun0.ensures.took in
    rw (p.1, p.2) (both-fail c.begin-2.result _ c.in_err-begun1.was law (took0 c.args.stream1.now first.1) c.begin-2.ensures.looks c.in_err-begun1.ensures.outside)

pub returns-in_err-start0 : goal.returns-in_err-start0
returns-in_err-start0 g c =
    let p = err_from_is_err_and c.from_residual-in_err-start0.result c.from_residual-in_err-start0.ensures.1 in
    let law = g.D.Disk.counts_now c.args.disk.now in
    let first = c.in_ok-begun0.ensures.took in
    let second = c.in_ok-begun1.ensures.took in
    rw (p.1, p.2) (both-fail c.finish_both.result _ c.in_err-start0.was law (took01 law first.1 second.1) c.finish_both.ensures.looks c.in_err-start0.ensures.outside)

pub returns : goal.returns
returns g c =
    let law = g.D.Disk.counts_now c.args.disk.now in
    let first = c.in_ok-begun0.ensures.took in
    let second = c.in_ok-begun1.ensures.took in
    let begun = took01 law first.1 second.1 in
    let starts = c.in_ok-start0.ensures.took in
    let whole = both-then law begun starts.took in
    let a : Pair = record { s0 = c.args.stream0.now; s1 = c.args.stream1.now } in
    let b : Pair = record { s0 = c.begin.new.stream; s1 = c.begin-2.new.stream } in
    let f : Pair = record { s0 = c.finish_both.new.stream0; s1 = c.finish_both.new.stream1 } in
    let n : Pair = record { s0 = c.choose.new.stream0; s1 = c.choose.new.stream1 } in
    both-go c.choose.result law whole c.choose.ensures
    (λ said ys0 ys1 took say. all-say a b f n c.in_ok-begun0.begun0 c.in_ok-begun1.begun1 (c.in_ok-start0.start0, c.in_ok-start0.start1) said
    first.0 second.0 starts.taken0 starts.taken1 ys0 ys1 c.requires.at0 c.requires.at1 begun.off0 begun.off1 first.2 second.2 starts.took.off0 starts.took.off1
    starts.goes took.off0 took.off1 say)
