use Rattle.ga_generate.specs.Lines.{host}
use Rattle.ga_generate.proofs.lines.push_host.Goals as goal

pub returns : goal.returns
unfolding host
returns c =
    rw (← c.format.ensures.text, ← c.as_bytes.ensures.value, ← c.format-2.ensures.text, ← c.as_bytes-2.ensures.value, ← c.format-3.ensures.text, ← c.as_bytes-3.ensures.value)
    c.push_all.ensures
