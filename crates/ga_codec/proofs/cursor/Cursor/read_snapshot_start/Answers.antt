use Rattle.std.proofs.lemmas.Result.{err_from_is_err_and}
use Rattle.ga_codec.specs.Steps.Grammar.{generation, keep_of, snapshot_start, snapshot_version}
use Rattle.ga_codec.proofs.Going.{begins, goes_on, ends, fails, fails_here}
use Rattle.ga_codec.proofs.Starts.{generation_is_part, is_start_2, keep_is_part, snapshot_version_is_part, start_2, start_from, start_inner, start_made}
use Rattle.ga_codec.proofs.cursor.Cursor.read_snapshot_start.Goals as goal

pub returns-in_err-has_keep : goal.returns-in_err-has_keep
returns-in_err-has_keep c =
    let p = err_from_is_err_and c.from_residual.result c.from_residual.ensures.1 in
    let a0 = begins snapshot_start start_inner start_from c.args.self.now start_made in
    rw (p.1, p.2) (fails_here snapshot_version start_2 c.in_err-has_keep.field-0.0 a0 snapshot_version_is_part (λ b _. is_start_2 b) c.in_err-has_keep.ensures)

pub returns-in_err-generation : goal.returns-in_err-generation
returns-in_err-generation c =
    let p = err_from_is_err_and c.from_residual-in_err-generation.result c.from_residual-in_err-generation.ensures.1 in
    let b = c.in_ok-has_keep.has_keep in
    let a0 = begins snapshot_start start_inner start_from c.args.self.now start_made in
    let a1 = goes_on start_2 a0 snapshot_version_is_part c.in_ok-has_keep.ensures in
    rw (p.1, p.2) (fails_here generation (λ _. keep_of b) c.in_err-generation.field-0.0 a1 generation_is_part (λ _ _. keep_is_part b) c.in_err-generation.ensures)

pub returns-in_err-keep : goal.returns-in_err-keep
returns-in_err-keep c =
    let p = err_from_is_err_and c.from_residual-in_err-keep.result c.from_residual-in_err-keep.ensures.1 in
    let b = c.in_ok-has_keep.has_keep in
    let a0 = begins snapshot_start start_inner start_from c.args.self.now start_made in
    let a1 = goes_on start_2 a0 snapshot_version_is_part c.in_ok-has_keep.ensures in
    let a2 = goes_on (λ _. keep_of b) a1 generation_is_part c.in_ok-generation.ensures in
    rw (p.1, p.2) (fails c.in_err-keep.field-0.0 a2 c.in_err-keep.ensures)

pub returns : goal.returns
returns c =
    let b = c.in_ok-has_keep.has_keep in
    let a0 = begins snapshot_start start_inner start_from c.args.self.now start_made in
    let a1 = goes_on start_2 a0 snapshot_version_is_part c.in_ok-has_keep.ensures in
    let a2 = goes_on (λ _. keep_of b) a1 generation_is_part c.in_ok-generation.ensures in
    ends a2 c.in_ok-keep.ensures
