use Rattle.std.proofs.lemmas.Result.{err_from_is_err_and}
use Rattle.ga_disk.specs.Trace.DiskCall.{read_call}
use Rattle.ga_store.proofs.RecoverDisk.{looks-failed, looks-none, looks-ok}
use Rattle.ga_store.proofs.side_stream.read_slice.Goals as goal

pub returns-in_err-resize-clause-looks : goal.returns-in_err-resize-clause-looks
returns-in_err-resize-clause-looks g c =
    let p = err_from_is_err_and c.from_residual.result c.from_residual.ensures.1 in
    rw (p.1, p.2) (looks-none _ _)

pub returns-in_err-read_at-clause-looks : goal.returns-in_err-read_at-clause-looks
returns-in_err-read_at-clause-looks g c =
    let p = err_from_is_err_and c.from_residual-in_err-read_at.result c.from_residual-in_err-read_at.ensures.1 in
    rw (p.1, p.2) (looks-failed _ c.in_err-read_at.ensures.reads.failed (read_call c.read_at.ensures.reads) c.read_at.ensures.leaves)

pub returns-clause-looks : goal.returns-clause-looks
returns-clause-looks g c = looks-ok c.in_ok-read_at.ensures.reads.ok.1 (read_call c.read_at.ensures.reads) c.read_at.ensures.leaves
