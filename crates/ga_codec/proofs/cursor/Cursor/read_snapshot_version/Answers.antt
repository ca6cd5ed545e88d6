use Rattle.std.proofs.Common.{drop}
use Rattle.std.proofs.lemmas.Result.{err_from_is_err_and}
use Rattle.ga_codec.specs.Steps.Grammar.{snapshot_version}
use Rattle.ga_codec.proofs.Going.{refuses_end, refuses_byte}
use Rattle.ga_codec.proofs.Starts.{is_its_byte, snapshot_version_is_part, some_byte}
use Rattle.ga_codec.proofs.cursor.Cursor.read_snapshot_version.Goals as goal

pub returns-in_err-peek : goal.returns-in_err-peek
returns-in_err-peek c =
    let p = err_from_is_err_and c.from_residual.result c.from_residual.ensures.1 in
    rw (p.1, p.2) (refuses_end snapshot_version c.args.self.now c.in_err-peek.field-0.0 snapshot_version_is_part some_byte c.in_err-peek.ensures.0 c.in_err-peek.ensures.1)

pub returns-in-None : goal.returns-in-None
returns-in-None c =
    refuses_byte snapshot_version c.args.self.now c.fault.result c.in_ok-peek.field-0 (drop 1 c.args.self.now.rest) snapshot_version_is_part some_byte
    (λ b _ e. c.in-None.ensures b (is_its_byte b c.in_ok-peek.field-0 e)) c.in_ok-peek.ensures c.fault.ensures
