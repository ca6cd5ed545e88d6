use Rattle.std.proofs.lemmas.Result.{err_from_is_err_and}
use Rattle.ga_codec.specs.Steps.Parts.{listed}
use Rattle.ga_codec.specs.Steps.Grammar.{key, sums, name, row}
use Rattle.ga_codec.proofs.Fields.{row_inner, row_2, is_row_2, key_is_part, sums_is_part, names_are_part, row_of, row_made}
use Rattle.ga_codec.proofs.Going.{begins, goes_on, ends, fails, fails_here}
use Rattle.ga_codec.proofs.cursor.Cursor.read_row.Goals as goal

pub returns-in_err-key : goal.returns-in_err-key
returns-in_err-key c =
    let p = err_from_is_err_and c.from_residual.result c.from_residual.ensures.1 in
    let a0 = begins row row_inner row_of c.args.self.now row_made in
    rw (p.1, p.2) (fails_here key (λ _. row_2) c.in_err-key.field-0.0 a0 key_is_part (λ _ _. is_row_2) c.in_err-key.ensures)

pub returns-in_err-sums : goal.returns-in_err-sums
returns-in_err-sums c =
    let p = err_from_is_err_and c.from_residual-in_err-sums.result c.from_residual-in_err-sums.ensures.1 in
    let a0 = begins row row_inner row_of c.args.self.now row_made in
    let a1 = goes_on (λ _. row_2) a0 key_is_part c.in_ok-key.ensures in
    rw (p.1, p.2) (fails_here sums (λ _. listed name) c.in_err-sums.field-0.0 a1 sums_is_part (λ _ _. names_are_part) c.in_err-sums.ensures)

pub returns-in_err-names : goal.returns-in_err-names
returns-in_err-names c =
    let p = err_from_is_err_and c.from_residual-in_err-names.result c.from_residual-in_err-names.ensures.1 in
    let a0 = begins row row_inner row_of c.args.self.now row_made in
    let a1 = goes_on (λ _. row_2) a0 key_is_part c.in_ok-key.ensures in
    let a2 = goes_on (λ _. listed name) a1 sums_is_part c.in_ok-sums.ensures in
    rw (p.1, p.2) (fails c.in_err-names.field-0.0 a2 c.in_err-names.ensures)

pub returns : goal.returns
returns c =
    let a0 = begins row row_inner row_of c.args.self.now row_made in
    let a1 = goes_on (λ _. row_2) a0 key_is_part c.in_ok-key.ensures in
    let a2 = goes_on (λ _. listed name) a1 sums_is_part c.in_ok-sums.ensures in
    ends a2 c.in_ok-names.ensures
