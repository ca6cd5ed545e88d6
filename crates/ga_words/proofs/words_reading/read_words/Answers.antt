use Rattle.ga_words.proofs.AnswerLemmas.{only-answer}
use Rattle.ga_words.proofs.words_reading.read_words.Goals as goal

pub returns-clause-only : goal.returns-clause-only
returns-clause-only c =
    only-answer c.args.words.now c.answer_of.result c.one_reading.ensures c.answer_of.ensures.ok c.answer_of.ensures.fault
