use Rattle.std.proofs.Common.{ap, rules}
use Rattle.std.specs.Ordering.{is_lt}
use Rattle.std.proofs.lemmas.List.Sorted.{ranks_by, answers_always}
use Rattle.ga_base.specs.Orders.{name_cmp}
use Rattle.ga_base.proofs.OrderLemmas.{name_cmp_total}
use Rattle.ga_pool.proofs.counted_rows.sorted_names.Goals as goal

pub returns-clause-sorted : goal.returns-clause-sorted
returns-clause-sorted c =
    c.sort_unstable_by.ensures.sorted (λ x y. is_lt (name_cmp x y)) (ranks_by name_cmp_total (λ x. x)) (answers_always _ _ _ (λ f a r f' k. ap is_lt (search rules)))
