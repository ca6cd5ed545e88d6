use Rattle.std.proofs.lemmas.Result.{err_from_is_err_and}
use Rattle.ga_codec.specs.Steps.Parts.{listed}
use Rattle.ga_codec.specs.Steps.Grammar.{version, summary, entry, delta}
use Rattle.ga_codec.proofs.Fields.{body, delta_inner, delta_of, delta_made, body_is_part, entries_are_part, summary_is_part}
use Rattle.ga_codec.proofs.Starts.{version_is_part}
use Rattle.ga_codec.proofs.Going.{begins, goes_on, fails, fails_here}
use Rattle.ga_codec.proofs.cursor.Cursor.read_delta.Goals as goal

pub returns-in_err-read_version : goal.returns-in_err-read_version
returns-in_err-read_version c =
    let p = err_from_is_err_and c.from_residual.result c.from_residual.ensures.1 in
    let a0 = begins delta delta_inner delta_of c.args.self.now delta_made in
    rw (p.1, p.2) (fails_here version (λ _. body) c.in_err-read_version.field-0.0 a0 version_is_part (λ _ _. body_is_part) c.in_err-read_version.ensures)

pub returns-in_err-summary : goal.returns-in_err-summary
returns-in_err-summary c =
    let p = err_from_is_err_and c.from_residual-in_err-summary.result c.from_residual-in_err-summary.ensures.1 in
    let a0 = begins delta delta_inner delta_of c.args.self.now delta_made in
    let a1 = goes_on (λ _. body) a0 version_is_part c.in_ok-read_version.ensures in
    rw (p.1, p.2) (fails_here summary (λ _. listed entry) c.in_err-summary.field-0.0 a1 summary_is_part (λ _ _. entries_are_part) c.in_err-summary.ensures)

pub returns-in_err-entries : goal.returns-in_err-entries
returns-in_err-entries c =
    let p = err_from_is_err_and c.from_residual-in_err-entries.result c.from_residual-in_err-entries.ensures.1 in
    let a0 = begins delta delta_inner delta_of c.args.self.now delta_made in
    let a1 = goes_on (λ _. body) a0 version_is_part c.in_ok-read_version.ensures in
    let a2 = goes_on (λ _. listed entry) a1 summary_is_part c.in_ok-summary.ensures in
    rw (p.1, p.2) (fails c.in_err-entries.field-0.0 a2 c.in_err-entries.ensures)
