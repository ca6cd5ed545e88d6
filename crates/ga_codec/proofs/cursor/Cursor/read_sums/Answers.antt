use Rattle.std.proofs.lemmas.Result.{err_from_is_err_and}
use Rattle.std.specs.Int.{w64}
use Rattle.ga_codec.specs.Steps.Grammar.{number, sums}
use Rattle.ga_codec.proofs.Fields.{numbers_2, numbers_3, numbers_4, are_2, are_3, n64_is_part, sums_of, sums_made}
use Rattle.ga_codec.proofs.Going.{begins, goes_on, fails, fails_here}
use Rattle.ga_codec.proofs.cursor.Cursor.read_sums.Goals as goal

pub returns-in_err-hits : goal.returns-in_err-hits
returns-in_err-hits c =
    let p = err_from_is_err_and c.from_residual.result c.from_residual.ensures.1 in
    let a0 = begins sums numbers_4 sums_of c.args.self.now sums_made in
    rw (p.1, p.2) (fails_here (number w64) (λ _. numbers_3) c.in_err-hits.field-0.0 a0 n64_is_part (λ _ _. are_3) c.in_err-hits.ensures)

pub returns-in_err-bytes : goal.returns-in_err-bytes
returns-in_err-bytes c =
    let p = err_from_is_err_and c.from_residual-in_err-bytes.result c.from_residual-in_err-bytes.ensures.1 in
    let a0 = begins sums numbers_4 sums_of c.args.self.now sums_made in
    let a1 = goes_on (λ _. numbers_3) a0 n64_is_part c.in_ok-hits.ensures in
    rw (p.1, p.2) (fails_here (number w64) (λ _. numbers_2) c.in_err-bytes.field-0.0 a1 n64_is_part (λ _ _. are_2) c.in_err-bytes.ensures)

pub returns-in_err-micros : goal.returns-in_err-micros
returns-in_err-micros c =
    let p = err_from_is_err_and c.from_residual-in_err-micros.result c.from_residual-in_err-micros.ensures.1 in
    let a0 = begins sums numbers_4 sums_of c.args.self.now sums_made in
    let a1 = goes_on (λ _. numbers_3) a0 n64_is_part c.in_ok-hits.ensures in
    let a2 = goes_on (λ _. numbers_2) a1 n64_is_part c.in_ok-bytes.ensures in
    rw (p.1, p.2) (fails_here (number w64) (λ _. number w64) c.in_err-micros.field-0.0 a2 n64_is_part (λ _ _. n64_is_part) c.in_err-micros.ensures)

pub returns-in_err-max_micros : goal.returns-in_err-max_micros
returns-in_err-max_micros c =
    let p = err_from_is_err_and c.from_residual-in_err-max_micros.result c.from_residual-in_err-max_micros.ensures.1 in
    let a0 = begins sums numbers_4 sums_of c.args.self.now sums_made in
    let a1 = goes_on (λ _. numbers_3) a0 n64_is_part c.in_ok-hits.ensures in
    let a2 = goes_on (λ _. numbers_2) a1 n64_is_part c.in_ok-bytes.ensures in
    let a3 = goes_on (λ _. number w64) a2 n64_is_part c.in_ok-micros.ensures in
    rw (p.1, p.2) (fails c.in_err-max_micros.field-0.0 a3 c.in_err-max_micros.ensures)
