use Rattle.std.proofs.Common.{ap, rules}
use Rattle.std.specs.Ordering.{is_lt}
use Rattle.std.proofs.lemmas.Fn.{always_returns_same}
use Rattle.std.proofs.lemmas.List.Sorted.{ranks_by}
use Rattle.ga_report.specs.Steps.Summed.{by_parent}
use Rattle.ga_report.proofs.GroupSlices.{by_parent_total}
use Rattle.ga_report.proofs.panel_items.sort_by_group.Goals as goal

pub returns-clause-sorted : goal.returns-clause-sorted
returns-clause-sorted c =
    c.sort_unstable_by.ensures.sorted (λ x y. is_lt (by_parent x y)) (ranks_by by_parent_total (λ x. x)) (always_returns_same _ _ _ (λ a r f k. (ap is_lt (search rules), search rules)))
