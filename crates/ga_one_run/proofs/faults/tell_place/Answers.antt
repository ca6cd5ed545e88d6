use Rattle.ga_one_run.proofs.faults.tell_place.Goals as goal

pub returns-clause-line : goal.returns-clause-line
returns-clause-line g c = rw (← c.format.ensures.text, ← c.as_bytes-at.ensures.value) c.say.ensures.line
