use Rattle.std.proofs.lemmas.Result.{err_from_is_err_and}
use Rattle.ga_disk.specs.Trace.DiskCall.{size_call}
use Rattle.ga_store.proofs.RecoverDisk.{looks-failed, looks-ok}
use Rattle.ga_store.proofs.side_stream.SideStream.open.Goals as goal

pub returns-in_err-size-clause-looks : goal.returns-in_err-size-clause-looks
returns-in_err-size-clause-looks g c =
    let p = err_from_is_err_and c.from_residual.result c.from_residual.ensures.1 in
    rw (p.1, p.2) (looks-failed _ c.in_err-size.ensures.sizes.failed (size_call c.size.ensures.sizes) c.size.ensures.leaves)

pub returns-clause-looks : goal.returns-clause-looks
returns-clause-looks g c = looks-ok c.in_ok-size.ensures.sizes.ok.2 (size_call c.size.ensures.sizes) c.size.ensures.leaves
