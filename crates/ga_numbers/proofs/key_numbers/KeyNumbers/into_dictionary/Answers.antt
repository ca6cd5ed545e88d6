use Rattle.std.proofs.Common.{Bool, [], ◌∙◌, ap}
use Rattle.ga_base.specs.Orders.{is_same_key}
use Rattle.ga_base.specs.contracts.key.KeyPartialEq.TheImpl.{ghosts as tests}
use Rattle.ga_base.specs.declared.key.Key.{Key}
use Rattle.ga_numbers.proofs.AllNoted.{noted-whole}
use Rattle.ga_numbers.proofs.Same.{key-laws, key-test, same-key}
use Rattle.ga_shards.specs.Steps.{all_noted}
use Rattle.ga_numbers.proofs.key_numbers.KeyNumbers.into_dictionary.Goals as goal

pub returns : goal.returns
returns c =
    let items = c.in_ok-items.field-0.items in
    c.in_ok-note_all.ensures.noted
    ∙ ap (λ l. all_noted (λ (a b : Key). tests.eq a b) l items) c.keyed-keys.ensures
    ∙ ap (λ (same : Key → Key → Bool). all_noted same [] items) key-test
    ∙ noted-whole is_same_key same-key key-laws items [] c.in_ok-items.ensures.distinct
    ∙ c.in_ok-items.ensures.value
