use Rattle.ga_dbtool.proofs.telling.tell_damage.Goals as goal

pub returns-clause-line : goal.returns-clause-line
returns-clause-line g c =
    rw (← c.format.ensures.text, ← c.as_bytes-db.ensures.value, ← c.format-2.ensures.text, ← c.as_bytes-side.ensures.value, ← c.format-3.ensures.text, ← c.as_bytes-at.ensures.value)
    c.say.ensures.line
