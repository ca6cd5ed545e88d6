use Rattle.ga_words.proofs.AnswerLemmas.{refused}
use Rattle.ga_words.proofs.words_reading.answer_of.Goals as goal

pub returns-in-Some-clause-fault : goal.returns-in-Some-clause-fault
returns-in-Some-clause-fault c =
    let read = c.in_ok-reading.ensures.ok in
    refused c.args.words.now c.in_ok-reading.reading read c.in-Some.fault (c.in-Some.ensures read.units read.last)
