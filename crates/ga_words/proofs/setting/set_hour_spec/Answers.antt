use Rattle.std.proofs.Common.{Some, None, refl, inr}
use Rattle.ga_words.specs.Options.{hour_specs}
use Rattle.ga_words.specs.Steps.Settings.{with_hour_spec}
use Rattle.ga_words.proofs.ValueLemmas.{sets-none, sets-one}
use Rattle.ga_words.proofs.setting.set_hour_spec.Goals as goal

pub returns-in_default-clause-fault : goal.returns-in_default-clause-fault
returns-in_default-clause-fault c = inr (refl, sets-none with_hour_spec hour_specs c.args.value.now None c.in_default.ensures refl)

pub returns-clause-ok : goal.returns-clause-ok
returns-clause-ok c = sets-one with_hour_spec hour_specs c.args.value.now (Some c.in-Some.spec) c.in-Some.spec c.args.settings.now c.in-Some.ensures refl
