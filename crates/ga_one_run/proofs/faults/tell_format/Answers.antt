use Rattle.std.proofs.Common.{sym, ◌∙◌}
use Rattle.ga_one_run.proofs.faults.tell_format.Goals as goal

pub returns-in-None-clause-line : goal.returns-in-None-clause-line
returns-in-None-clause-line g c =
    let leaf = sym c.leaf.ensures ∙ c.in-None.is in
    rw (leaf, ← c.format_name-format.ensures, ← c.text.ensures, ← c.as_bytes-text.ensures.value, ← c.place.ensures) c.tell_in_text.ensures.line

pub returns-in-Some-clause-line : goal.returns-in-Some-clause-line
returns-in-Some-clause-line g c =
    let leaf = sym c.leaf.ensures ∙ c.in-Some.is in
    rw (leaf, ← c.format_name-format.ensures, ← c.text.ensures, ← c.as_bytes-text.ensures.value, ← c.place-in-Some.ensures) c.tell_in_leaf.ensures.line
