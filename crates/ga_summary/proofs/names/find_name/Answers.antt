use Rattle.std.proofs.Common.{rules}
use Rattle.std.proofs.lemmas.Fn.{always_returns_same}
use Rattle.ga_base.specs.Orders.{name_cmp}
use Rattle.ga_summary.proofs.NameLists.{names_searched}
use Rattle.ga_summary.proofs.names.find_name.Goals as goal

pub returns : goal.returns
returns c =
    let facts = c.binary_search_by.ensures in
    let by_name = facts.position (λ other. name_cmp other c.args.name.now) (always_returns_same _ _ _ (λ a r g called. search rules)) in
    names_searched c.args.names.now c.requires c.args.name.now c.binary_search_by.result facts.bound by_name
