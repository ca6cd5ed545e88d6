use Rattle.std.proofs.Common.{◌∙◌}
use Rattle.ga_conf.proofs.SettingLemmas.{flag_answer, value_answer}
use Rattle.ga_conf.proofs.setting.setting_of.Goals as goal

pub returns-in-Some-Flag : goal.returns-in-Some-Flag
returns-in-Some-Flag c =
    flag_answer c.args.name.now c.args.value.now c.as_str-option.result.now c.in-Some-Flag.field-0 c.flag_word.result c.in-Some-Flag.field-0-is
    (c.as_str-option.ensures.value ∙ c.in_ok-option.ensures) c.in-Some-Flag.ensures c.flag_word.ensures

pub returns : goal.returns
returns c =
    value_answer c.args.name.now c.args.value.now c.as_str-option.result.now c.in-Some-Value.field-0 c.value_word.result c.in-Some-Value.field-0-is
    (c.as_str-option.ensures.value ∙ c.in_ok-option.ensures) c.in-Some-Value.ensures c.value_word.ensures
