use Rattle.std.proofs.Common.{List, ℕ, subst, sym}
use Rattle.std.proofs.lemmas.Result.{err_from_is_err_and}
use Rattle.ga_ports.specs.Trace.FilesTrace.{files_then}
use Rattle.ga_logs.specs.Following.{ReadsPortion}
use Rattle.ga_logs.proofs.ReadSteps.{misses-rest, reads-portion, serves-later}
use Rattle.ga_logs.proofs.portion_reading.read_portion.Goals as goal

pub returns-in_err-bytes-clause-failed : goal.returns-in_err-bytes-clause-failed
returns-in_err-bytes-clause-failed g c =
    let view = g.F.Files.view in
    let p = err_from_is_err_and c.from_residual-in_err-bytes.result c.from_residual-in_err-bytes.ensures.1 in
    rw (p.1, p.2) (misses-rest c.args.follow c.args.entries.now c.args.name.now (view c.args.files.now) (view c.open_log.new.files) (view c.read_part.new.files)
    c.in_ok-segment.segment c.in_ok-segment.ensures.ok _ c.in_err-bytes.ensures.failed)

pub returns-in_err-bytes-clause-calls : goal.returns-in_err-bytes-clause-calls
returns-in_err-bytes-clause-calls g c = files_then c.open_log.ensures.calls c.read_part.ensures.calls

pub returns-in_err-bytes-clause-sure : goal.returns-in_err-bytes-clause-sure
returns-in_err-bytes-clause-sure g c =
    let view = g.F.Files.view in
    let p = err_from_is_err_and c.from_residual-in_err-bytes.result c.from_residual-in_err-bytes.ensures.1 in
    λ can. rw (p.1, p.2) (c.in_err-bytes.ensures.sure (serves-later (view c.args.files.now) (view c.open_log.new.files) (c.files_stay.ensures _ _ c.open_log.ensures.calls) can.none_due))

pub returns-clause-ok : goal.returns-clause-ok
returns-clause-ok g c =
    let view = g.F.Files.view in
    subst (λ (bytes : List ℕ). ReadsPortion c.args.follow c.args.entries.now c.args.name.now (view c.args.files.now) (view c.read_part.new.files) (record { segment = c.in_ok-segment.segment; bytes = bytes }))
    (sym c.from.ensures)
    (reads-portion c.args.follow c.args.entries.now c.args.name.now (view c.args.files.now) (view c.open_log.new.files) (view c.read_part.new.files)
    c.in_ok-segment.segment c.in_ok-segment.ensures.ok _ c.in_ok-bytes.ensures.ok)

pub returns-clause-calls : goal.returns-clause-calls
returns-clause-calls g c = files_then c.open_log.ensures.calls c.read_part.ensures.calls
