use Rattle.std.proofs.Common.{rules}
use Rattle.std.proofs.lemmas.Fn.{always_returns_same}
use Rattle.ga_base.specs.Orders.{key_cmp}
use Rattle.ga_summary.specs.Steps.Entries.{row_of}
use Rattle.ga_summary.proofs.Put.{searched_map}
use Rattle.ga_base.proofs.OrderLemmas.{key_cmp_total}
use Rattle.ga_summary.proofs.entries.find.Goals as goal

pub returns : goal.returns
returns c =
    let facts = c.binary_search_by.ensures in
    let by_key = facts.position (λ boxed. key_cmp boxed.value.key c.args.key.now) (always_returns_same _ _ _ (λ a r g called. search rules)) in
    searched_map key_cmp (λ row. row.key) (λ boxed. row_of boxed.value) key_cmp_total c.args.key.now c.args.entries.now c.binary_search_by.result c.requires facts.bound by_key
