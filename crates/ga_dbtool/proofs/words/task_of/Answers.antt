use Rattle.ga_dbtool.specs.Steps.Tasks.{task_value}
use Rattle.ga_dbtool.proofs.WordForms.{means-bad, means-task}
use Rattle.ga_dbtool.proofs.words.task_of.Goals as goal

pub returns-clause-task : goal.returns-clause-task
returns-clause-task c = means-task task_value c.args.words.now c.read_task.result c.read_task.ensures.task

pub returns-clause-bad : goal.returns-clause-bad
returns-clause-bad c = means-bad c.args.words.now c.read_task.result c.read_task.ensures.bad
