use Rattle.ga_one_run.proofs.OneAnswer.{one-answer}
use Rattle.ga_one_run.proofs.laws.one_answer.Goals as goal

pub returns : goal.returns
returns c = λ s line is files sides.
    one-answer (record { rules = c.one_reading.ensures.rules; fault = c.one_reading.ensures.fault; either = c.one_reading.ensures.either })
    (record { portion = c.one_portion.ensures; following = c.one_following.ensures; course = c.one_course.ensures }) c.one_database.ensures s line
    (record { total = λ rules. c.one_count.ensures.sum s line rules is; counter = λ rules. c.one_count.ensures.counter s line rules is; apart = λ rules. c.one_count.ensures.apart s line rules is })
    (c.one_text.ensures s) files sides
