use Rattle.ga_dbtool.proofs.telling.tell_counter.Goals as goal

pub returns-clause-line : goal.returns-clause-line
returns-clause-line g c =
    rw (← c.format.ensures.text, ← c.as_bytes-total.ensures.value, ← c.counter_name-counter.ensures) c.say.ensures.line
