use Rattle.std.proofs.Common.{rules}
use Rattle.std.proofs.lemmas.Fn.{always_returns_same}
use Rattle.ga_summary.specs.Steps.Passing.{day_cmp}
use Rattle.ga_summary.proofs.DayRows.{day_searched}
use Rattle.ga_summary.proofs.first_bad.find_day.Goals as goal

pub returns : goal.returns
returns c =
    let facts = c.binary_search_by.ensures in
    let by_day = facts.position (λ part. day_cmp part.key c.args.date) (always_returns_same _ _ _ (λ a r g called. search rules)) in
    day_searched c.args.rows.now c.args.date c.requires.rising c.requires.formed c.binary_search_by.result facts.bound by_day
