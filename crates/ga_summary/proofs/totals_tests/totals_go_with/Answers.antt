use Rattle.std.proofs.Common.{sym, ◌∙◌}
use Rattle.std.proofs.lemmas.Bool.{false≢true}
use Rattle.ga_summary.proofs.Times.{times_of, totals_from, days_from}
use Rattle.ga_summary.proofs.totals_tests.totals_go_with.Goals as goal

pub returns-then-not-times_fit : goal.returns-then-not-times_fit
returns-then-not-times_fit c =
    (λ e. absurd (false≢true e), λ sound. absurd (false≢true (sym c.if-not-times_fit.true ∙ c.times_fit.ensures.1 (times_of c.args.rows.now c.requires.keys sound.times))))

pub returns : goal.returns
returns c =
    let days = rw (c.of_totals.ensures) at c.days_within.ensures in (
      λ e. totals_from c.args.rows.now c.args.totals c.requires.keys (c.lines_add.ensures.0 c.if-not-lines_add.false) (c.totals_fit.ensures.0 c.if-not-totals_fit.false) (c.times_fit.ensures.0 c.if-not-times_fit.false) (days.0 e),
      λ sound. days.1 (days_from c.args.rows.now c.args.totals c.requires.keys sound),
    )
