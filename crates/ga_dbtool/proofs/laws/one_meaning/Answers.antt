use Rattle.ga_dbtool.proofs.Runs.{not-both, one-stop, one-task}
use Rattle.ga_dbtool.proofs.laws.one_meaning.Goals as goal

pub returns-clause-task : goal.returns-clause-task
returns-clause-task c = one-task

pub returns-clause-place : goal.returns-clause-place
returns-clause-place c = one-stop

pub returns-clause-apart : goal.returns-clause-apart
returns-clause-apart c = not-both
