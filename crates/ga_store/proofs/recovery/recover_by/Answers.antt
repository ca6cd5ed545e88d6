use Rattle.std.proofs.Common.{◌≡◌, ℕ, ◌+◌, ◌++◌, List, Option, IfSome, Result, length, sym, ap, ◌∙◌, subst, arith}
use Rattle.std.proofs.lemmas.Result.{err_from_is_err_and}
use Rattle.ga_counters.specs.Counts.{raised}
use Rattle.ga_disk.specs.Images.{OnlyImage}
use Rattle.ga_disk.specs.Sides.{Sides}
use Rattle.ga_store.specs.Database.{DbOf}
use Rattle.ga_store.specs.Steps.Recovery.{Answers}
use Rattle.ga_store.specs.Steps.Stream.{HasSizeOf, StreamView}
use Rattle.ga_store.specs.Store.{ReadsOnce, reads_of}
use Rattle.ga_store.specs.declared.db.Db.{Db}
use Rattle.ga_store.specs.declared.fault.StoreFault.{StoreFault}
use Rattle.ga_store.proofs.RecoverDisk.{BothRead, both-told, looks-then, only-fewer, recovers, recovers-not, seen-same}
use Rattle.ga_store.proofs.RecoverStreams.{all-long, all-reads, all-told, calls-sum, last-rest, says-answer}
use Rattle.ga_store.proofs.Streaming.{off-then}
use Rattle.ga_store.proofs.recovery.recover_by.Goals as goal

pub returns-in_err-stream0 : goal.returns-in_err-stream0
returns-in_err-stream0 g c =
    let p = err_from_is_err_and c.from_residual-in_err-stream0.result c.from_residual-in_err-stream0.ensures.1 in
    let law = g.D.Disk.counts_now c.args.disk.now in
    let looks = looks-then law c.in_ok-settle.ensures.looks c.open.ensures.looks in
    rw (p.1, p.2) (recovers-not g.D.Disk.view g.D.Disk.images c.args.disk.now c.open.new.disk c.open.result (g.D.Disk.only_now c.args.disk.now) c.in_err-stream0.field-0.0 c.in_err-stream0.was
    c.in_err-stream0.ensures.outside looks)

pub returns-in_err-stream1 : goal.returns-in_err-stream1
returns-in_err-stream1 g c =
    let p = err_from_is_err_and c.from_residual-in_err-stream1.result c.from_residual-in_err-stream1.ensures.1 in
    let law = g.D.Disk.counts_now c.args.disk.now in
    let looks = looks-then law (looks-then law c.in_ok-settle.ensures.looks c.in_ok-stream0.ensures.looks) c.open-2.ensures.looks in
    rw (p.1, p.2) (recovers-not g.D.Disk.view g.D.Disk.images c.args.disk.now c.open-2.new.disk c.open-2.result (g.D.Disk.only_now c.args.disk.now) c.in_err-stream1.field-0.0 c.in_err-stream1.was
    c.in_err-stream1.ensures.outside looks)

pub returns-in_err-said : goal.returns-in_err-said
returns-in_err-said g c =
    let p = err_from_is_err_and c.from_residual-in_err-said.result c.from_residual-in_err-said.ensures.1 in
    let law = g.D.Disk.counts_now c.args.disk.now in
    let looks = looks-then law (looks-then law (looks-then law c.in_ok-settle.ensures.looks c.in_ok-stream0.ensures.looks) c.in_ok-stream1.ensures.looks) c.read_sides.ensures.looks in
    rw (p.1, p.2) (recovers-not g.D.Disk.view g.D.Disk.images c.args.disk.now c.read_sides.new.disk c.read_sides.result (g.D.Disk.only_now c.args.disk.now) c.in_err-said.field-0.0 c.in_err-said.was
    c.in_err-said.ensures.outside looks)

pub returns-in_err-drain : goal.returns-in_err-drain
returns-in_err-drain g c =
    let p = err_from_is_err_and c.from_residual-in_err-drain.result c.from_residual-in_err-drain.ensures.1 in
    let law = g.D.Disk.counts_now c.args.disk.now in
    let looks = looks-then law (looks-then law (looks-then law (looks-then law c.in_ok-settle.ensures.looks c.in_ok-stream0.ensures.looks) c.in_ok-stream1.ensures.looks) c.in_ok-said.ensures.looks) c.drain.ensures.looks in
    rw (p.1, p.2) (recovers-not g.D.Disk.view g.D.Disk.images c.args.disk.now c.drain.new.disk c.drain.result (g.D.Disk.only_now c.args.disk.now) c.in_err-drain.field-0.0 c.in_err-drain.was
    c.in_err-drain.ensures.outside looks)

pub returns-in_err-drain-2 : goal.returns-in_err-drain-2
returns-in_err-drain-2 g c =
    let p = err_from_is_err_and c.from_residual-in_err-drain-2.result c.from_residual-in_err-drain-2.ensures.1 in
    let law = g.D.Disk.counts_now c.args.disk.now in
    let looks = looks-then law (looks-then law (looks-then law (looks-then law (looks-then law c.in_ok-settle.ensures.looks c.in_ok-stream0.ensures.looks) c.in_ok-stream1.ensures.looks) c.in_ok-said.ensures.looks) c.in_ok-drain.ensures.looks) c.drain-2.ensures.looks in
    rw (p.1, p.2) (recovers-not g.D.Disk.view g.D.Disk.images c.args.disk.now c.drain-2.new.disk c.drain-2.result (g.D.Disk.only_now c.args.disk.now) c.in_err-drain-2.field-0.0 c.in_err-drain-2.was
    c.in_err-drain-2.ensures.outside looks)

pub returns : goal.returns
returns g c =
    let law = g.D.Disk.counts_now c.args.disk.now in
    let view = g.D.Disk.view in
    let images = g.D.Disk.images in
    let synced = c.settle.new.disk in
    let ready = c.open-2.new.disk in
    let end = c.drain-2.new.disk in
    let settled = c.in_ok-settle.ensures in
    let open0 = c.in_ok-stream0.ensures in
    let open1 = c.in_ok-stream1.ensures in
    let both = c.in_ok-said.ensures.took in
    let drain0 = c.in_ok-drain.ensures.took in
    let drain1 = c.in_ok-drain-2.ensures.took in
    let s0 = c.in_ok-stream0.stream0 in
    let s1 = c.in_ok-stream1.stream1 in
    let side0 : List ℕ = both.taken0 ++ drain0.0 in
    let side1 : List ℕ = both.taken1 ++ drain1.0 in
    let sides : Sides = record { side0 = side0; side1 = side1 } in
    let last = looks-then (g.D.Disk.counts_now c.read_sides.new.disk) drain0.1.looks drain1.1.looks in
    let read = looks-then (g.D.Disk.counts_now ready) both.took.looks last in
    let reads = looks-then (g.D.Disk.counts_now synced) open0.looks (looks-then (g.D.Disk.counts_now c.open.new.disk) open1.looks read) in
    let looks = looks-then law settled.looks reads in
    let to-ready : (view ready).seen ≡ (view synced).seen = seen-same open1.looks ∙ seen-same open0.looks in
    let read-same : (view c.read_sides.new.disk).seen ≡ (view ready).seen = seen-same both.took.looks in
    let off0 = off-then read-same both.took.off0 drain0.1.off in
    let off1 = off-then (seen-same drain0.1.looks ∙ read-same) both.took.off1 drain1.1.off in
    let size0 = subst (λ (o : Option Sides). HasSizeOf s0 o) (sym to-ready) open0.begins.told in
    let size1 = subst (λ (o : Option Sides). HasSizeOf s1 o) (sym (seen-same open1.looks)) open1.begins.told in
    let to-end : (view end).seen ≡ (view ready).seen = seen-same read in
    let told0 = subst (λ (o : Option Sides). IfSome o (λ seen. side0 ≡ seen.side0)) (sym to-end)
    (all-told (view ready).seen 0 s0 c.drain.new.self side0 open0.begins.is size0 off0 drain0.2.0) in
    let told1 = subst (λ (o : Option Sides). IfSome o (λ seen. side1 ≡ seen.side1)) (sym to-end)
    (all-told (view ready).seen 1 s1 c.drain-2.new.self side1 open1.begins.is size1 off1 drain1.2.0) in
    let long0 = all-long (view ready).seen 0 s0 c.drain.new.self side0 open0.begins.is off0 drain0.2.0 in
    let long1 = all-long (view ready).seen 1 s1 c.drain-2.new.self side1 open1.begins.is off1 drain1.2.0 in
    let reads0 = all-reads (view ready).seen 0 s0 c.drain.new.self side0 open0.begins.is off0 drain0.2.0 drain0.2.1 in
    let reads1 = all-reads (view ready).seen 1 s1 c.drain-2.new.self side1 open1.begins.is off1 drain1.2.0 drain1.2.1 in
    let told = both-told (view end).seen side0 side1 told0 told1 in
    let count0 : both.took.off0.reads + drain0.1.off.reads ≡ reads_of (length side0) =
    omega (arith, reads0, drain0.1.off.read, both.took.off0.read, ap (λ (s : StreamView). s.reads) open0.begins.is) in
    let count1 : both.took.off1.reads + drain1.1.off.reads ≡ reads_of (length side1) =
    omega (arith, reads1, drain1.1.off.read, both.took.off1.read, ap (λ (s : StreamView). s.reads) open1.begins.is) in
    let sum : (view end).counts.calls ≡ raised (view c.args.disk.now).counts.calls (2 + (1 + (both.took.off0.reads + drain0.1.off.reads)) + (1 + (both.took.off1.reads + drain1.1.off.reads))) =
    calls-sum _ _ _ _ _ _ _ both.took.off0.reads both.took.off1.reads drain0.1.off.reads drain1.1.off.reads settled.calls open0.begins.calls open1.begins.calls both.took.calls
    drain0.1.calls drain1.1.calls in
    let once : ReadsOnce view images c.args.disk.now end = record {
      before = synced;
      syncs = settled.order;
      looks = reads;
      sides = sides;
      told = told;
      calls = sum ∙ ap (λ (n : ℕ × ℕ). raised (view c.args.disk.now).counts.calls (2 + (1 + n.0) + (1 + n.1))) (λ i. (count0 i, count1 i));
    } in
    let whole : BothRead (view end) (images end) side0 side1 = record {
      only = subst (λ (o : Option Sides). IfSome o (OnlyImage (images end))) (sym (seen-same looks))
          (only-fewer (view c.args.disk.now).seen (images synced) (images end) reads.leaves.none_added settled.settled);
      first = record { told = told0; size = omega (arith, long0, open0.begins.size) };
      second = record { told = told1; size = omega (arith, long1, open1.begins.size) };
    } in
    let rest0 = last-rest (view c.read_sides.new.disk).seen c.read_sides.new.stream0 c.drain.new.self drain0.0 drain0.1.off drain0.2.0 in
    let rest1 = last-rest (view c.drain.new.disk).seen c.read_sides.new.stream1 c.drain-2.new.self drain1.0 drain1.1.off drain1.2.0 in
    let has = both.goes drain0.0 drain1.0 rest0 rest1 in
    let says = subst (λ (r : Result Db StoreFault). Answers (DbOf sides) r) (sym c.answer.ensures) (says-answer sides c.in_ok-said.said has) in
    recovers view images c.args.disk.now end c.answer.result side0 side1 (g.D.Disk.only_now c.args.disk.now) looks whole once says
