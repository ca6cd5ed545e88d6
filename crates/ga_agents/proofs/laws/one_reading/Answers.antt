use Rattle.std.specs.Str.Lines.{lines}
use Rattle.ga_agents.proofs.FileLemmas.{one_list, one_fault, list_or_fault}
use Rattle.ga_agents.proofs.SomeAnswer.{some_reading}
use Rattle.ga_agents.proofs.laws.one_reading.Goals as goal

pub returns-clause-rules : goal.returns-clause-rules
returns-clause-rules c = λ text one two. one_list (lines text) one two

pub returns-clause-fault : goal.returns-clause-fault
returns-clause-fault c = one_fault

pub returns-clause-either : goal.returns-clause-either
returns-clause-either c = list_or_fault

pub returns-clause-some : goal.returns-clause-some
returns-clause-some c = some_reading
