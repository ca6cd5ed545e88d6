use Rattle.std.proofs.Common.{Bor, List, ℕ}
use Rattle.std.proofs.lemmas.Result.{err_from_is_err_and}
use Rattle.std.specs.Int.{w64}
use Rattle.ga_codec.specs.Steps.Grammar.{number, utf8, text}
use Rattle.ga_codec.proofs.Going.{begins, goes_on, fails_here, reads_last}
use Rattle.ga_codec.proofs.Texts.{utf8_is_part}
use Rattle.ga_codec.proofs.Fields.{text_inner, text_made, n64_is_part}
use Rattle.ga_codec.proofs.cursor.Cursor.read_str.Goals as goal

pub returns-in_err-size : goal.returns-in_err-size
returns-in_err-size c =
    let p = err_from_is_err_and c.from_residual.result c.from_residual.ensures.1 in
    let a0 = begins text text_inner (λ v. v.1) c.args.self.now text_made in
    rw (p.1, p.2) (fails_here (number w64) utf8 c.in_err-size.field-0.0 a0 n64_is_part (λ n _. utf8_is_part n) c.in_err-size.ensures)

pub returns : goal.returns
returns c =
    let a0 = begins text text_inner (λ v. v.1) c.args.self.now text_made in
    let a1 = goes_on utf8 a0 n64_is_part c.in_ok-size.ensures in
    reads_last c.read_utf8.new.self (λ (lent : Bor (List ℕ)). lent.now) c.read_utf8.result a1 c.read_utf8.ensures
