use Rattle.ga_words.proofs.OptionLemmas.{form-flag, form-value}
use Rattle.ga_words.proofs.option_form.form_of.Goals as goal

-- Not checked: the arms of the match follow the `?`, whose value is `c.in_ok-option_named.field-0`.
pub returns-in-Flag : goal.returns-in-Flag
returns-in-Flag c =
    form-flag c.args.name.now c.option_named.result c.in_ok-option_named.field-0 c.in-Flag.field-0 c.option_named.ensures c.in_ok-option_named.was c.in-Flag.is

pub returns-in_default : goal.returns-in_default
returns-in_default c =
    form-value c.args.name.now c.option_named.result c.in_ok-option_named.field-0 c.option_named.ensures c.in_ok-option_named.was (λ flag is. c.in_default.not-Flag flag is)
