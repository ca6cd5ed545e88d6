use Rattle.std.proofs.Common.{sym, ◌∙◌}
use Rattle.ga_conf.proofs.SettingLemmas.{form_in_file}
use Rattle.ga_conf.proofs.setting.form_in_file.Goals as goal

pub returns : goal.returns
returns c = form_in_file c.args.name.now c.args.option.now c.form_of.result c.requires (sym c.eq.ensures ∙ c.if-eq.false) (sym c.eq-else-eq.ensures ∙ c.if-eq-2.false) c.form_of.ensures
