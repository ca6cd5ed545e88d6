use Rattle.std.proofs.Common.{◌≡◌, inl}
use Rattle.std.proofs.lemmas.Result.{IfErr-weaker}
use Rattle.ga_words.specs.declared.fault.WordFault.{WordFault}
use Rattle.ga_words.specs.declared.fault.WordFault.TheVariants.{NoMemory}
use Rattle.ga_words.specs.Steps.Settings.{IsValueFault}
use Rattle.ga_words.proofs.setting.set_value.Goals as goal

pub returns-in-Format-clause-ok : goal.returns-in-Format-clause-ok
returns-in-Format-clause-ok c = rw c.in-Format.is c.set_format.ensures.ok

pub returns-in-Format-clause-fault : goal.returns-in-Format-clause-fault
returns-in-Format-clause-fault c =
    IfErr-weaker c.set_format.result (λ (f : WordFault). f ≡ NoMemory) (IsValueFault c.args.takes c.args.value.now c.args.at) (λ f memory. inl memory) c.set_format.ensures.fault

pub returns-in-Name-clause-ok : goal.returns-in-Name-clause-ok
returns-in-Name-clause-ok c = rw c.in-Name.is c.set_name.ensures.ok

pub returns-in-Name-clause-fault : goal.returns-in-Name-clause-fault
returns-in-Name-clause-fault c = rw c.in-Name.is c.set_name.ensures.fault

pub returns-in-Number-clause-ok : goal.returns-in-Number-clause-ok
returns-in-Number-clause-ok c = rw c.in-Number.is c.set_number_option.ensures.ok

pub returns-in-Number-clause-fault : goal.returns-in-Number-clause-fault
returns-in-Number-clause-fault c = rw c.in-Number.is c.set_number_option.ensures.fault

pub returns-in-Status-clause-ok : goal.returns-in-Status-clause-ok
returns-in-Status-clause-ok c = rw c.in-Status.is c.add_status.ensures.ok

pub returns-in-Status-clause-fault : goal.returns-in-Status-clause-fault
returns-in-Status-clause-fault c = rw c.in-Status.is c.add_status.ensures.fault

pub returns-in-Target-clause-ok : goal.returns-in-Target-clause-ok
returns-in-Target-clause-ok c = rw c.in-Target.is c.set_target.ensures.ok

pub returns-in-Target-clause-fault : goal.returns-in-Target-clause-fault
returns-in-Target-clause-fault c = rw c.in-Target.is c.set_target.ensures.fault

pub returns-in-Addresses-clause-ok : goal.returns-in-Addresses-clause-ok
returns-in-Addresses-clause-ok c = rw c.in-Addresses.is c.add_range.ensures.ok

pub returns-in-Addresses-clause-fault : goal.returns-in-Addresses-clause-fault
returns-in-Addresses-clause-fault c = rw c.in-Addresses.is c.add_range.ensures.fault

pub returns-in-OfPanel-clause-ok : goal.returns-in-OfPanel-clause-ok
returns-in-OfPanel-clause-ok c = rw c.in-OfPanel.is c.set_panel.ensures.ok

pub returns-in-OfPanel-clause-fault : goal.returns-in-OfPanel-clause-fault
returns-in-OfPanel-clause-fault c = rw c.in-OfPanel.is c.set_panel.ensures.fault

pub returns-in-DateSpec-clause-ok : goal.returns-in-DateSpec-clause-ok
returns-in-DateSpec-clause-ok c = rw c.in-DateSpec.is c.set_date_spec.ensures.ok

pub returns-in-DateSpec-clause-fault : goal.returns-in-DateSpec-clause-fault
returns-in-DateSpec-clause-fault c = rw c.in-DateSpec.is c.set_date_spec.ensures.fault

pub returns-in-HourSpec-clause-ok : goal.returns-in-HourSpec-clause-ok
returns-in-HourSpec-clause-ok c = rw c.in-HourSpec.is c.set_hour_spec.ensures.ok

pub returns-in-HourSpec-clause-fault : goal.returns-in-HourSpec-clause-fault
returns-in-HourSpec-clause-fault c = rw c.in-HourSpec.is c.set_hour_spec.ensures.fault
