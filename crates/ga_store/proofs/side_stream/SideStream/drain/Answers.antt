use Rattle.std.proofs.Common.{◌++◌, [], length, ap, arith, take}
use Rattle.std.proofs.lemmas.Result.{err_from_is_err_and}
use Rattle.ga_store.specs.Steps.Stream.{StreamView}
use Rattle.ga_store.proofs.Streaming.{all-past, streams-fail, took-as, took-none, took-then}
use Rattle.ga_store.proofs.side_stream.SideStream.drain.Goals as goal

pub loop-self-init : goal.loop-self-init
loop-self-init g c =
    let first = all-past (g.D.Disk.view c.args.disk.now) (g.D.Disk.images c.args.disk.now) c.args.self.now c.take.new.self (length c.window.result.now)
    (ap length c.window.ensures) c.take.ensures in
    record { taken = []; took = took-none _ _ _; none = first.1 }

pub loop-self-preserved : goal.loop-self-preserved
loop-self-preserved g c =
    let law = g.D.Disk.counts_now c.args.disk.now in
    let next = c.in_ok-load_slice.ensures.took in
    let loaded = took-then law c.loop-self.invariant.took (took-as next.0 [] next.2.0 next.1) in
    let last = all-past (g.D.Disk.view c.load_slice.new.disk) (g.D.Disk.images c.load_slice.new.disk) c.load_slice.new.self c.take-in-loop-self.new.self
    (length c.window-in-loop-self.result.now) (ap length c.window-in-loop-self.ensures) c.take-in-loop-self.ensures in
    record { taken = (c.loop-self.invariant.taken ++ []) ++ take (length c.window-in-loop-self.result.now) c.load_slice.new.self.window; took = took-then law loaded last.0; none = last.1 }

pub returns-in_err-load_slice : goal.returns-in_err-load_slice
returns-in_err-load_slice g c =
    let p = err_from_is_err_and c.from_residual.result c.from_residual.ensures.1 in
    let law = g.D.Disk.counts_now c.args.disk.now in
    let first = all-past (g.D.Disk.view c.args.disk.now) (g.D.Disk.images c.args.disk.now) c.args.self.now c.take.new.self (length c.window.result.now)
    (ap length c.window.ensures) c.take.ensures in
    rw (p.1, p.2) (streams-fail c.load_slice.result _ c.in_err-load_slice.was law (took-then law first.0 c.loop-self.invariant.took) c.load_slice.ensures)

pub returns : goal.returns
returns g c =
    let law = g.D.Disk.counts_now c.args.disk.now in
    let first = all-past (g.D.Disk.view c.args.disk.now) (g.D.Disk.images c.args.disk.now) c.args.self.now c.take.new.self (length c.window.result.now)
    (ap length c.window.ensures) c.take.ensures in
    let took = took-then law first.0 c.loop-self.invariant.took in
    let size = ap (λ (s : StreamView). s.size) c.self.view_is in
    let reads = ap (λ (s : StreamView). s.reads) c.self.view_is in
    record {
      looks = took.looks;
      took = (
        _,
        took,
        (
          omega (arith, c.loop-self.invariant.none, c.loop-self-test.false, c.asked.ensures, size),
          record {
            enough = omega (arith, c.loop-self-test.false, c.asked.ensures, size);
            none_over = omega (arith, c.self.invariant.2, size, reads);
          },
        ),
      );
      outside = tt;
    }
