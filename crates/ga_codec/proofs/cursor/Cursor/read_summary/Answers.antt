use Rattle.std.proofs.lemmas.Result.{err_from_is_err_and}
use Rattle.ga_codec.specs.Steps.Parts.{listed}
use Rattle.ga_codec.specs.Steps.Grammar.{totals, row, summary}
use Rattle.ga_codec.proofs.Fields.{summary_inner, totals_is_part, rows_are_part, summary_of, summary_made}
use Rattle.ga_codec.proofs.Going.{begins, goes_on, fails, fails_here}
use Rattle.ga_codec.proofs.cursor.Cursor.read_summary.Goals as goal

pub returns-in_err-totals : goal.returns-in_err-totals
returns-in_err-totals c =
    let p = err_from_is_err_and c.from_residual.result c.from_residual.ensures.1 in
    let a0 = begins summary summary_inner summary_of c.args.self.now summary_made in
    rw (p.1, p.2) (fails_here totals (λ _. listed row) c.in_err-totals.field-0.0 a0 totals_is_part (λ _ _. rows_are_part) c.in_err-totals.ensures)

pub returns-in_err-rows : goal.returns-in_err-rows
returns-in_err-rows c =
    let p = err_from_is_err_and c.from_residual-in_err-rows.result c.from_residual-in_err-rows.ensures.1 in
    let a0 = begins summary summary_inner summary_of c.args.self.now summary_made in
    let a1 = goes_on (λ _. listed row) a0 totals_is_part c.in_ok-totals.ensures in
    rw (p.1, p.2) (fails c.in_err-rows.field-0.0 a1 c.in_err-rows.ensures)
