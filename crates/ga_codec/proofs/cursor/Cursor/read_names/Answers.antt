use Rattle.std.specs.Int.{w64}
use Rattle.std.proofs.lemmas.Result.{err_from_is_err_and}
use Rattle.ga_codec.specs.Steps.Parts.{followed_by, listed, times}
use Rattle.ga_codec.specs.Steps.Grammar.{number, name}
use Rattle.ga_codec.proofs.Going.{begins, goes_on, fails_here, reads_last}
use Rattle.ga_codec.proofs.Numbers.{listed_made, times_is_part}
use Rattle.ga_codec.proofs.Fields.{n64_is_part, name_is_part}
use Rattle.ga_codec.proofs.cursor.Cursor.read_names.Goals as goal

pub returns-in_err-count : goal.returns-in_err-count
returns-in_err-count c =
    let p = err_from_is_err_and c.from_residual.result c.from_residual.ensures.1 in
    let a0 = begins (listed name) (followed_by (number w64) (λ n. times n name)) (λ v. v.1) c.args.self.now (listed_made name) in
    rw (p.1, p.2) (fails_here (number w64) (λ n. times n name) c.in_err-count.field-0.0 a0 n64_is_part (λ n _. times_is_part name name_is_part n) c.in_err-count.ensures)

pub returns : goal.returns
returns c =
    let a0 = begins (listed name) (followed_by (number w64) (λ n. times n name)) (λ v. v.1) c.args.self.now (listed_made name) in
    let a1 = goes_on (λ n. times n name) a0 n64_is_part c.in_ok-count.ensures in
    reads_last c.read_each_name.new.self (λ xs. xs) c.read_each_name.result a1 c.read_each_name.ensures
