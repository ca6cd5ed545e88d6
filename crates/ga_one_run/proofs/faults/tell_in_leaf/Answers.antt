use Rattle.ga_one_run.proofs.faults.tell_in_leaf.Goals as goal

pub returns-in-None-clause-line : goal.returns-in-None-clause-line
returns-in-None-clause-line g c = rw (c.in-None.is, ← c.format.ensures.text, ← c.as_bytes-leaf.ensures.value) c.say.ensures.line

pub returns-in-Some-clause-line : goal.returns-in-Some-clause-line
returns-in-Some-clause-line g c =
    rw (c.in-Some.is, ← c.format.ensures.text, ← c.as_bytes-leaf.ensures.value, ← c.format-in-Some.ensures.text, ← c.as_bytes-at.ensures.value) c.say-in-Some.ensures.line
