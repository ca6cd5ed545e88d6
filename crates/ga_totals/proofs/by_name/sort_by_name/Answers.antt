use Rattle.std.proofs.Common.{ap, rules}
use Rattle.std.specs.Ordering.{is_lt}
use Rattle.std.proofs.lemmas.List.Sorted.{ranks_by, answers_always}
use Rattle.ga_base.specs.Orders.{name_of}
use Rattle.ga_base.proofs.OrderLemmas.{name_cmp_total}
use Rattle.ga_totals.specs.Steps.Ranks.{named_cmp}
use Rattle.ga_totals.proofs.by_name.sort_by_name.Goals as goal

pub returns-clause-sorted : goal.returns-clause-sorted
returns-clause-sorted c =
    c.sort_unstable_by.ensures.sorted (λ x y. is_lt (named_cmp x y)) (ranks_by name_cmp_total (λ x. name_of x.visitor)) (answers_always _ _ _ (λ f a r f' k. ap is_lt (search rules)))
