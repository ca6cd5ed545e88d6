use Rattle.std.proofs.Common.{Bool, [], ◌∙◌, ap}
use Rattle.ga_base.specs.Orders.{is_same_visitor}
use Rattle.ga_base.specs.contracts.key.VisitorPartialEq.TheImpl.{ghosts as tests}
use Rattle.ga_base.specs.declared.key.Visitor.{Visitor}
use Rattle.ga_numbers.proofs.AllNoted.{noted-whole}
use Rattle.ga_numbers.proofs.Same.{visitor-laws, visitor-test, same-visitor}
use Rattle.ga_shards.specs.Steps.{all_noted}
use Rattle.ga_numbers.proofs.visitor_numbers.VisitorNumbers.into_dictionary.Goals as goal

pub returns : goal.returns
returns c =
    let items = c.in_ok-items.field-0.items in
    c.in_ok-note_all.ensures.noted
    ∙ ap (λ l. all_noted (λ (a b : Visitor). tests.eq a b) l items) c.keyed-visitors.ensures
    ∙ ap (λ (same : Visitor → Visitor → Bool). all_noted same [] items) visitor-test
    ∙ noted-whole is_same_visitor same-visitor visitor-laws items [] c.in_ok-items.ensures.distinct
    ∙ c.in_ok-items.ensures.value
