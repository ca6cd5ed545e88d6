use Rattle.ga_words.proofs.OptionLemmas.{accepts-none, accepts-value, refused-answer}
use Rattle.ga_words.proofs.option_form.takes_value.Goals as goal

pub returns-in_default : goal.returns-in_default
returns-in_default c = accepts-none c.args.name.now c.args.value.now c.option_named.result c.option_named.ensures c.in_default.is

pub returns-in-Ok : goal.returns-in-Ok
returns-in-Ok c =
    accepts-value c.args.name.now c.args.value.now c.option_named.result c.in-Some.takes c.in_ok-settings.settings c.set_value.new.settings c.option_named.ensures c.in-Some.is c.in-Ok.ensures.ok

pub returns : goal.returns
returns c =
    refused-answer c.args.name.now c.args.value.now c.option_named.result c.in-Some.takes 0 c.in-Err.fault c.refusal.result c.option_named.ensures c.in-Some.is c.in-Err.ensures.fault c.refusal.ensures
