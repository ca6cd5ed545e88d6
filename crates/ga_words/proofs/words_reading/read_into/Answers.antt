use Rattle.std.proofs.lemmas.Result.{err_from_is_err_and}
use Rattle.ga_words.proofs.AnswerLemmas.{tail-read, tail-fault}
use Rattle.ga_words.proofs.words_reading.read_into.Goals as goal

pub returns-in_err-add_logs-clause-fault : goal.returns-in_err-add_logs-clause-fault
returns-in_err-add_logs-clause-fault c =
    let p = err_from_is_err_and c.from_residual-in_err-add_logs.result c.from_residual-in_err-add_logs.ensures.1 in
    rw (p.1, p.2)
    (tail-fault c.args.words.now c.in_ok-rest.rest.now c.read_units.new.reading c.in_ok-rest.ensures.ok.0 c.in-Some.field-0-0.now c.in-Some.logs.now c.in_err-add_logs.field-0.0
    c.in_ok-rest.ensures.ok.1 c.in-Some.ensures.cases.0 c.in_err-add_logs.ensures.fault)

pub returns-clause-ok : goal.returns-clause-ok
returns-clause-ok c =
    tail-read c.args.words.now c.in_ok-rest.rest.now c.read_units.new.reading c.in_ok-rest.ensures.ok.0 c.in-Some.field-0-0.now c.in-Some.logs.now c.add_logs.new.settings
    c.in_ok-rest.ensures.ok.1 c.in-Some.ensures.cases.0 c.in_ok-add_logs.ensures.ok.0 c.in_ok-add_logs.ensures.ok.1
