use Rattle.ga_one_run.proofs.SomeAnswer.{some-answer}
use Rattle.ga_one_run.proofs.laws.some_answer.Goals as goal

pub returns : goal.returns
returns c = some-answer (record {
  reading = c.one_reading.ensures.some;
  database = c.some_database.ensures;
  choice = c.a_choice_exists.ensures;
  count = c.some_count.ensures;
  merged = c.some_merged.ensures;
  report = c.some_report.ensures;
})
