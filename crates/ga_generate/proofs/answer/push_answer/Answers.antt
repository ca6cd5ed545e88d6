use Rattle.ga_generate.specs.Lines.{answer}
use Rattle.ga_generate.proofs.answer.push_answer.Goals as goal

pub returns : goal.returns
unfolding answer
returns c =
    rw (← c.status.ensures, ← c.format.ensures.text, ← c.as_bytes.ensures.value, ← c.format-2.ensures.text, ← c.as_bytes-2.ensures.value)
    c.push_all.ensures
