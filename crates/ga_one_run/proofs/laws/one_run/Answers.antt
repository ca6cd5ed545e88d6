use Rattle.ga_one_run.proofs.OneRun.{one-run}
use Rattle.ga_one_run.proofs.laws.one_run.Goals as goal

pub returns : goal.returns
returns g c = λ conf words sides sides' files files' others others' disk disk' other other' outs outs' targets targets' status end u v agree same.
    one-run c.one_answer.ensures (record { all = c.read_as_told.ensures.all; some = c.read_as_told.ensures.some }) c.one_database.ensures conf words sides sides' agree _ _ u v same
