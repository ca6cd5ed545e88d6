use Rattle.std.proofs.Common.{[], true, arith, subst}
use Rattle.ga_base.specs.declared.counts.Totals.{Totals}
use Rattle.ga_line.specs.Lines.{lines}
use Rattle.ga_workers.specs.Together.{AreCounted}
use Rattle.ga_workers.proofs.Answers.{told-ok}
use Rattle.ga_pool.proofs.SumExists.{counts-batch}
use Rattle.ga_workers.proofs.Together.{counted-totals}
use Rattle.ga_summary.specs.Outcomes.{totals_of}
use Rattle.ga_base.specs.Totals.{totals_plus, TotalsFit}
use Rattle.ga_pool.proofs.pool.count_batch.Goals as goal

pub put_together-requires-clause-tallies : goal.put_together-requires-clause-tallies
put_together-requires-clause-tallies g c =
    let on = told-ok c.count_from-counted.result.0 c.in_ok-counted.field-0 _ c.in_ok-counted.was c.count_from-counted.ensures.ok in
    λ _ _. (on.outcomes, on.counted [] c.in_ok-tallies.ensures.none)

pub put_together-requires-clause-fit : goal.put_together-requires-clause-fit
put_together-requires-clause-fit g c =
    let fit = told-ok c.count_from-counted.result.0 c.in_ok-counted.field-0 _ c.in_ok-counted.was c.count_from-counted.ensures.fit in
    λ _ _. record { lines = omega (arith, fit.lines); bytes = omega (arith, fit.bytes); micros = omega (arith, fit.micros) }

pub returns-clause-ok : goal.returns-clause-ok
returns-clause-ok g c =
    let before = c.args.before.now in
    let on = told-ok c.count_from-counted.result.0 c.in_ok-counted.field-0 _ c.in_ok-counted.was c.count_from-counted.ensures.ok in
    let ts = c.in_ok-counted.field-0.items in
    let are : AreCounted on.outcomes ts = on.counted [] c.in_ok-tallies.ensures.none in
    let fit : TotalsFit (totals_plus before (totals_of on.outcomes)) = subst (λ (u : Totals). TotalsFit (totals_plus before u)) (counted-totals on.outcomes ts are)
    (told-ok c.count_from-counted.result.0 c.in_ok-counted.field-0 _ c.in_ok-counted.was c.count_from-counted.ensures.fit) in
    counts-batch c.args.setup.now before (lines c.args.batch.now true) on.outcomes c.in_ok-put_together.field-0 on.have_outcomes on.countable fit (c.in_ok-put_together.ensures on.outcomes are on.countable)
