use Rattle.std.specs.Str.Lines.{lines}
use Rattle.ga_conf.proofs.FileLemmas.{list_or_fault, one_fault, one_list}
use Rattle.ga_conf.proofs.SomeConf.{some_conf}
use Rattle.ga_conf.proofs.laws.one_conf.Goals as goal

pub returns-clause-words : goal.returns-clause-words
returns-clause-words c = λ bytes one two gives other. one_list (lines bytes) one two gives other

pub returns-clause-fault : goal.returns-clause-fault
returns-clause-fault c = one_fault

pub returns-clause-either : goal.returns-clause-either
returns-clause-either c = list_or_fault

pub returns-clause-some : goal.returns-clause-some
returns-clause-some c = some_conf c.each_value_is_judged.ensures c.each_option_has_a_form.ensures
