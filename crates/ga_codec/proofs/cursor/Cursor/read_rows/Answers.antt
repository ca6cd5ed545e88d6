use Rattle.ga_summary.specs.SummaryParts.{rows_in}
use Rattle.std.specs.Int.{w64}
use Rattle.std.proofs.lemmas.Result.{err_from_is_err_and}
use Rattle.ga_codec.specs.Steps.Parts.{followed_by, listed, times}
use Rattle.ga_codec.specs.Steps.Grammar.{number, row}
use Rattle.ga_codec.proofs.Going.{begins, goes_on, fails_here, reads_last}
use Rattle.ga_codec.proofs.Numbers.{listed_made, times_is_part}
use Rattle.ga_codec.proofs.Fields.{n64_is_part, row_is_part}
use Rattle.ga_codec.proofs.cursor.Cursor.read_rows.Goals as goal

pub returns-in_err-count : goal.returns-in_err-count
returns-in_err-count c =
    let p = err_from_is_err_and c.from_residual.result c.from_residual.ensures.1 in
    let a0 = begins (listed row) (followed_by (number w64) (λ n. times n row)) (λ v. v.1) c.args.self.now (listed_made row) in
    rw (p.1, p.2) (fails_here (number w64) (λ n. times n row) c.in_err-count.field-0.0 a0 n64_is_part (λ n _. times_is_part row row_is_part n) c.in_err-count.ensures)

pub returns : goal.returns
returns c =
    let a0 = begins (listed row) (followed_by (number w64) (λ n. times n row)) (λ v. v.1) c.args.self.now (listed_made row) in
    let a1 = goes_on (λ n. times n row) a0 n64_is_part c.in_ok-count.ensures in
    reads_last c.read_each_row.new.self rows_in c.read_each_row.result a1 c.read_each_row.ensures
