use Rattle.ga_one_run.proofs.faults.tell_days.Goals as goal

pub returns-clause-line : goal.returns-clause-line
returns-clause-line g c =
    rw (← c.format.ensures.text, ← c.as_bytes-stored.ensures.value, ← c.format-2.ensures.text, ← c.as_bytes-given.ensures.value) c.say.ensures.line
