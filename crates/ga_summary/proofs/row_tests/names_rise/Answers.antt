use Rattle.std.proofs.Common.{rules, is_lt}
use Rattle.std.proofs.lemmas.Fn.{always_returns_same}
use Rattle.ga_base.specs.Orders.{name_cmp}
use Rattle.ga_summary.proofs.NameTests.{names_told}
use Rattle.ga_summary.proofs.row_tests.names_rise.Goals as goal

pub returns : goal.returns
returns c =
    let facts = c.is_sorted_by.ensures.cases in
    let by_name = facts (λ a b. is_lt (name_cmp a b)) (always_returns_same _ _ _ (λ a r g called. search rules)) in
    names_told c.args.names.now c.is_sorted_by.result by_name
