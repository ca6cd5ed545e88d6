use Rattle.std.proofs.Common.{[]}
use Rattle.std.proofs.lemmas.Result.{err_from_is_err_and}
use Rattle.ga_store.proofs.Streaming.{streams-fail, took-as, took-none, took-then}
use Rattle.ga_store.proofs.side_stream.SideStream.load.Goals as goal

pub loop-self-init : goal.loop-self-init
loop-self-init g c = took-none _ _ _

pub loop-self-preserved : goal.loop-self-preserved
loop-self-preserved g c =
    let next = c.in_ok-load_slice.ensures.took in
    took-then (g.D.Disk.counts_now c.args.disk.now) c.loop-self.invariant (took-as next.0 [] next.2.0 next.1)

pub returns-in_err-load_slice : goal.returns-in_err-load_slice
returns-in_err-load_slice g c =
    let p = err_from_is_err_and c.from_residual.result c.from_residual.ensures.1 in
    rw (p.1, p.2) (streams-fail c.load_slice.result _ c.in_err-load_slice.was (g.D.Disk.counts_now c.args.disk.now) c.loop-self.invariant c.load_slice.ensures)
