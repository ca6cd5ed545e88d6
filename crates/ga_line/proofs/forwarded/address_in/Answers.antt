use Rattle.std.proofs.Common.{sym, ◌∙◌}
use Rattle.std.proofs.lemmas.Bool.{false≢true}
use Rattle.ga_line.proofs.ChainLemmas.{address-found, address-none}
use Rattle.ga_line.proofs.SeparatorLemmas.{entry-run}
use Rattle.ga_line.proofs.forwarded.address_in.Goals as goal

pub returns-then-is_address-clause-found : goal.returns-then-is_address-clause-found
returns-then-is_address-clause-found c =
    let separators = c.args.separators.now in
    let rest = c.args.rest.now in
    let run = entry-run separators rest _ _ c.find_byteset.result c.unwrap_or-end.result c.find_byteset.ensures c.unwrap_or-end.ensures c.split_at.ensures.front c.split_at.ensures.back in
    address-found separators rest _ _ run (c.is_address.ensures.0 c.if-is_address.true)

pub returns-else-is_address-clause-none : goal.returns-else-is_address-clause-none
returns-else-is_address-clause-none c =
    let separators = c.args.separators.now in
    let rest = c.args.rest.now in
    let run = entry-run separators rest _ _ c.find_byteset.result c.unwrap_or-end.result c.find_byteset.ensures c.unwrap_or-end.ensures c.split_at.ensures.front c.split_at.ensures.back in
    address-none separators rest _ _ run (λ address. false≢true (sym c.if-is_address.false ∙ c.is_address.ensures.1 address))
