use Rattle.std.proofs.Common.{◌≡◌, ℕ, List, Result, Ok, Err, MatchResult, is_ok, sym, ◌∙◌, rules}
use Rattle.std.proofs.lemmas.Fn.{always_returns_same}
use Rattle.std.specs.List.Sorted.{IsStrictlySortedBy}
use Rattle.ga_base.specs.declared.name.Name.{Name}
use Rattle.ga_base.specs.Orders.{name_cmp, name_of}
use Rattle.ga_summary.specs.SummaryRows.{has_name}
use Rattle.ga_summary.specs.Steps.Places.{StandsAt, GoesTo}
use Rattle.ga_summary.proofs.NameLists.{names_searched, has_name_found, has_name_missing}
use Rattle.ga_summary.proofs.names.holds_visitor.Goals as goal

told : (names : List Name) → IsStrictlySortedBy name_cmp names → (name : Name) (r : Result ℕ ℕ) → MatchResult r (StandsAt name_cmp (λ n. n) name names) (GoesTo name_cmp (λ n. n) name names) → is_ok r ≡ has_name names name
told names rising name (Ok i) h = sym (has_name_found names rising name i h)
told names rising name (Err i) h = sym (has_name_missing names rising name i h)

pub returns : goal.returns
returns c =
    let name : Name = name_of c.args.visitor.now in
    let facts = c.binary_search_by-found.ensures in
    let by_name = facts.position (λ other. name_cmp other name) (always_returns_same _ _ _ (λ a r g called. search rules)) in
    c.is_ok.ensures.value ∙ told c.args.names.now c.requires name c.binary_search_by-found.result (names_searched c.args.names.now c.requires name c.binary_search_by-found.result facts.bound by_name)
