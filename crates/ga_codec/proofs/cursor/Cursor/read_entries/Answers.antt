use Rattle.std.proofs.Common.{map}
use Rattle.ga_codec.specs.Steps.Shapes.{shape_value}
use Rattle.std.specs.Int.{w64}
use Rattle.std.proofs.lemmas.Result.{err_from_is_err_and}
use Rattle.ga_codec.specs.Steps.Parts.{followed_by, listed, times}
use Rattle.ga_codec.specs.Steps.Grammar.{number, entry}
use Rattle.ga_codec.proofs.Going.{begins, goes_on, fails_here, reads_last}
use Rattle.ga_codec.proofs.Numbers.{listed_made, times_is_part}
use Rattle.ga_codec.proofs.Fields.{n64_is_part, entry_is_part}
use Rattle.ga_codec.proofs.cursor.Cursor.read_entries.Goals as goal

pub returns-in_err-count : goal.returns-in_err-count
returns-in_err-count c =
    let p = err_from_is_err_and c.from_residual.result c.from_residual.ensures.1 in
    let a0 = begins (listed entry) (followed_by (number w64) (λ n. times n entry)) (λ v. v.1) c.args.self.now (listed_made entry) in
    rw (p.1, p.2) (fails_here (number w64) (λ n. times n entry) c.in_err-count.field-0.0 a0 n64_is_part (λ n _. times_is_part entry entry_is_part n) c.in_err-count.ensures)

pub returns : goal.returns
returns c =
    let a0 = begins (listed entry) (followed_by (number w64) (λ n. times n entry)) (λ v. v.1) c.args.self.now (listed_made entry) in
    let a1 = goes_on (λ n. times n entry) a0 n64_is_part c.in_ok-count.ensures in
    reads_last c.read_each_entry.new.self (λ v. map shape_value v.items) c.read_each_entry.result a1 c.read_each_entry.ensures
