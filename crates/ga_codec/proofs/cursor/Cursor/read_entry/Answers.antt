use Rattle.std.proofs.lemmas.Result.{err_from_is_err_and}
use Rattle.std.specs.Int.{w16, w64}
use Rattle.ga_codec.specs.Steps.Grammar.{any_bytes, number, entry}
use Rattle.ga_codec.proofs.Numbers.{any_is_part}
use Rattle.ga_codec.proofs.Fields.{entry_inner, entry_2, is_entry_2, n16_is_part, n64_is_part, entry_of, entry_made}
use Rattle.ga_codec.proofs.Going.{begins, goes_on, fails, fails_here}
use Rattle.ga_codec.proofs.cursor.Cursor.read_entry.Goals as goal

pub returns-in_err-lead : goal.returns-in_err-lead
returns-in_err-lead c =
    let p = err_from_is_err_and c.from_residual.result c.from_residual.ensures.1 in
    let a0 = begins entry entry_inner entry_of c.args.self.now entry_made in
    rw (p.1, p.2) (fails_here (number w16) (λ _. entry_2) c.in_err-lead.field-0.0 a0 n16_is_part (λ _ _. is_entry_2) c.in_err-lead.ensures)

pub returns-in_err-digest : goal.returns-in_err-digest
returns-in_err-digest c =
    let p = err_from_is_err_and c.from_residual-in_err-digest.result c.from_residual-in_err-digest.ensures.1 in
    let a0 = begins entry entry_inner entry_of c.args.self.now entry_made in
    let a1 = goes_on (λ _. entry_2) a0 n16_is_part c.in_ok-lead.ensures in
    rw (p.1, p.2) (fails_here (any_bytes 32) (λ _. number w64) c.in_err-digest.field-0.0 a1 (any_is_part 32) (λ _ _. n64_is_part) c.in_err-digest.ensures)

pub returns-in_err-offset : goal.returns-in_err-offset
returns-in_err-offset c =
    let p = err_from_is_err_and c.from_residual-in_err-offset.result c.from_residual-in_err-offset.ensures.1 in
    let a0 = begins entry entry_inner entry_of c.args.self.now entry_made in
    let a1 = goes_on (λ _. entry_2) a0 n16_is_part c.in_ok-lead.ensures in
    let a2 = goes_on (λ _. number w64) a1 (any_is_part 32) c.in_ok-digest.ensures in
    rw (p.1, p.2) (fails c.in_err-offset.field-0.0 a2 c.in_err-offset.ensures)
