use Rattle.std.proofs.lemmas.Result.{err_from_is_err_and}
use Rattle.ga_store.proofs.CommitFill.{ends-err, ends-none, ends-ok}
use Rattle.ga_store.proofs.committing.end_side.Goals as goal

pub returns-then-not-cuts : goal.returns-then-not-cuts
returns-then-not-cuts g c = ends-none c.if-not-cuts.true

pub returns-in_err-cut : goal.returns-in_err-cut
returns-in_err-cut g c =
    let p = err_from_is_err_and c.from_residual.result c.from_residual.ensures.1 in
    rw (p.1, p.2) (ends-err c.in_err-cut.ensures.cuts c.in_err-cut.ensures.leaves)

pub returns : goal.returns
returns g c = ends-ok c.if-not-cuts.false c.in_ok-cut.ensures.cuts c.in_ok-cut.ensures.leaves
