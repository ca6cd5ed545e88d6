use Rattle.std.proofs.Common.{Bool, false, sym, subst}
use Rattle.std.proofs.lemmas.Result.{err_from_is_err_and}
use Rattle.ga_codec.specs.declared.snapshot_start.Start.{Start}
use Rattle.ga_codec.specs.Steps.Grammar.{version}
use Rattle.ga_codec.specs.Steps.Parts.{Reads, Refuses}
use Rattle.ga_codec.specs.Steps.Pieces.{start}
use Rattle.ga_codec.proofs.Going.{begins, fails}
use Rattle.ga_codec.proofs.Starts.{delta_start_made, no_start}
use Rattle.ga_codec.proofs.cursor.Cursor.read_start.Goals as goal

pub returns-then-is_snapshot : goal.returns-then-is_snapshot
returns-then-is_snapshot c =
    let new = c.read_snapshot_start.new.self in
    subst (λ (b : Bool). Reads {X = Start} (start b) (λ s. s) c.args.self.now new c.read_snapshot_start.result)
    (sym c.if-is_snapshot.true) c.read_snapshot_start.ensures

pub returns-in_err-read_version : goal.returns-in_err-read_version
returns-in_err-read_version c =
    let p = err_from_is_err_and c.from_residual.result c.from_residual.ensures.1 in
    let fault = c.in_err-read_version.field-0.0 in
    let refused = fails fault (begins (start false) version (λ _. no_start) c.args.self.now delta_start_made) c.in_err-read_version.ensures in
    rw (p.1, p.2) (subst (λ (b : Bool). Refuses (start b) c.args.self.now fault) (sym c.if-is_snapshot.false) refused)
