use Rattle.std.proofs.lemmas.Result.{err_from_is_err_and}
use Rattle.std.specs.Int.{w64}
use Rattle.ga_codec.specs.Steps.Grammar.{number, totals}
use Rattle.ga_codec.specs.Steps.Pieces.{head, start}
use Rattle.ga_codec.proofs.Fields.{n64_is_part, totals_is_part}
use Rattle.ga_codec.proofs.Going.{begins, goes_on, ends, fails, fails_here}
use Rattle.ga_codec.proofs.Heads.{head_2, head_from, head_inner, head_made, is_head_2}
use Rattle.ga_codec.proofs.Starts.{start_is_part}
use Rattle.ga_codec.proofs.cursor.Cursor.read_head.Goals as goal

pub returns-in_err-start : goal.returns-in_err-start
returns-in_err-start c =
    let b = c.args.is_snapshot in
    let p = err_from_is_err_and c.from_residual.result c.from_residual.ensures.1 in
    let a0 = begins (head b) (head_inner b) head_from c.args.self.now (head_made b) in
    rw (p.1, p.2) (fails_here (start b) (λ _. head_2) c.in_err-start.field-0.0 a0 (start_is_part b) (λ _ _. is_head_2) c.in_err-start.ensures)

pub returns-in_err-totals : goal.returns-in_err-totals
returns-in_err-totals c =
    let b = c.args.is_snapshot in
    let p = err_from_is_err_and c.from_residual-in_err-totals.result c.from_residual-in_err-totals.ensures.1 in
    let a0 = begins (head b) (head_inner b) head_from c.args.self.now (head_made b) in
    let a1 = goes_on (λ _. head_2) a0 (start_is_part b) c.in_ok-start.ensures in
    rw (p.1, p.2) (fails_here totals (λ _. number w64) c.in_err-totals.field-0.0 a1 totals_is_part (λ _ _. n64_is_part) c.in_err-totals.ensures)

pub returns-in_err-count : goal.returns-in_err-count
returns-in_err-count c =
    let b = c.args.is_snapshot in
    let p = err_from_is_err_and c.from_residual-in_err-count.result c.from_residual-in_err-count.ensures.1 in
    let a0 = begins (head b) (head_inner b) head_from c.args.self.now (head_made b) in
    let a1 = goes_on (λ _. head_2) a0 (start_is_part b) c.in_ok-start.ensures in
    let a2 = goes_on (λ _. number w64) a1 totals_is_part c.in_ok-totals.ensures in
    rw (p.1, p.2) (fails c.in_err-count.field-0.0 a2 c.in_err-count.ensures)

pub returns : goal.returns
returns c =
    let b = c.args.is_snapshot in
    let a0 = begins (head b) (head_inner b) head_from c.args.self.now (head_made b) in
    let a1 = goes_on (λ _. head_2) a0 (start_is_part b) c.in_ok-start.ensures in
    let a2 = goes_on (λ _. number w64) a1 totals_is_part c.in_ok-totals.ensures in
    ends a2 c.in_ok-count.ensures
