use Rattle.ga_run.proofs.Histories.{history-then}
use Rattle.ga_run.proofs.laws.histories_go_on.Goals as goal

pub returns : goal.returns
returns c = λ steps statuses old mid new step status made next. history-then step status made next
