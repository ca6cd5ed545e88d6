use Rattle.std.proofs.Common.{option_map, sym, ap, ◌∙◌}
use Rattle.ga_words.specs.Steps.Settings.{meaning}
use Rattle.ga_words.proofs.NameLemmas.{no-joined-plain, no-joined-cut}
use Rattle.ga_words.proofs.word.option_with_value.Goals as goal

pub returns-in_err-name : goal.returns-in_err-name
returns-in_err-name c = rw c.from_residual.ensures (no-joined-plain c.args.word.now c.in_err-name.ensures)

pub returns-in_err-option_named : goal.returns-in_err-option_named
returns-in_err-option_named c =
    let none = sym c.option_named.ensures ∙ ap (option_map meaning) c.in_err-option_named.was in
    rw c.from_residual-in_err-option_named.ensures
    (no-joined-cut c.args.word.now c.in_ok-name.name.now c.in_ok-name.value.now c.in_ok-name.ensures (λ long. none))
