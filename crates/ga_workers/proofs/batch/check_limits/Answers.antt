use Rattle.std.proofs.Common.{List, ap, ◌∙◌, subst}
use Rattle.ga_workers.specs.Together.{totals_in}
use Rattle.ga_base.specs.Totals.{totals_plus, TotalsFit}
use Rattle.ga_tallies.specs.Tallies.{TallySeen}
use Rattle.ga_workers.proofs.batch.check_limits.Goals as goal

pub returns-in-Some-counters_within-clause-fit : goal.returns-in-Some-counters_within-clause-fit
returns-in-Some-counters_within-clause-fit c =
    let told = c.in-Some-counters_within.ensures in
    let are = told.0 ∙ ap (λ (l : List TallySeen). totals_plus c.args.start.now (totals_in l)) c.deref.ensures.value in
    subst TotalsFit are told.1
