use Rattle.ga_dbtool.proofs.telling.tell_pair.Goals as goal

pub returns-clause-line : goal.returns-clause-line
returns-clause-line g c =
    rw (← c.format.ensures.text, ← c.as_bytes-first.ensures.value, ← c.format-2.ensures.text, ← c.as_bytes-second.ensures.value) c.say.ensures.line
