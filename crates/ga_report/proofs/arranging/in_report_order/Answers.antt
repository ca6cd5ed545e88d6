use Rattle.std.proofs.Common.{ap, rules}
use Rattle.std.specs.Ordering.{is_lt}
use Rattle.std.proofs.lemmas.Fn.{always_returns_same}
use Rattle.std.proofs.lemmas.List.Sorted.{ranks_by}
use Rattle.ga_report.specs.Items.{order}
use Rattle.ga_report.proofs.Arrangement.{order_total}
use Rattle.ga_report.proofs.arranging.in_report_order.Goals as goal

pub returns-clause-sorted : goal.returns-clause-sorted
returns-clause-sorted c =
    c.sort_unstable_by.ensures.sorted (λ x y. is_lt (order c.args.panel x y)) (ranks_by (order_total c.args.panel) (λ x. x)) (always_returns_same _ _ _ (λ a r f k. (ap is_lt (search rules), search rules)))
