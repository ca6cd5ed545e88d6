use Rattle.ga_dbtool.proofs.telling.tell_number.Goals as goal

pub returns-clause-line : goal.returns-clause-line
returns-clause-line g c = rw (← c.format.ensures.text, ← c.as_bytes-number.ensures.value) c.say.ensures.line
