use Rattle.ga_one_run.proofs.OneRun.{one-run-by}
use Rattle.ga_one_run.proofs.WordLaw.{one-words}
use Rattle.ga_one_run.proofs.laws.one_run_by_any_workers.Goals as goal

pub returns : goal.returns
returns g c = λ conf words conf' words' sides sides' files files' others others' disk disk' other other' outs outs' targets targets' status end differ u v agree same.
    one-run-by (one-words c.joined_words.ensures.one) c.one_answer.ensures (record { all = c.read_as_told.ensures.all; some = c.read_as_told.ensures.some }) c.one_database.ensures conf words conf' words' sides sides' agree _ _ u v same differ
