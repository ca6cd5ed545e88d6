use Rattle.ga_generate.specs.Lines.{request}
use Rattle.ga_generate.proofs.lines.push_request.Goals as goal

pub returns : goal.returns
unfolding request
returns c =
    rw (← c.format.ensures.text, ← c.as_bytes-page.ensures.value, ← c.ending.ensures)
    c.push_all.ensures
