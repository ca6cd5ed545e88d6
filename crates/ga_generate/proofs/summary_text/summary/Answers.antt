use Rattle.std.proofs.Common.{◌∙◌, refl}
use Rattle.ga_generate.specs.Summary.{summary_text}
use Rattle.ga_generate.proofs.summary_text.summary.Goals as goal

pub returns : goal.returns
unfolding summary_text
returns c =
    c.from.ensures ∙ c.in_ok-push_all.ensures ∙ rw (
      c.new-text.ensures.items,
      ← c.format.ensures.text,
      ← c.as_bytes.ensures.value,
      ← c.format-2.ensures.text,
      ← c.as_bytes-2.ensures.value,
      ← c.format-3.ensures.text,
      ← c.as_bytes-3.ensures.value,
      ← c.format-4.ensures.text,
      ← c.as_bytes-4.ensures.value,
      ← c.format-5.ensures.text,
      ← c.as_bytes-5.ensures.value,
      ← c.digest.ensures,
      ← c.in_ok-digest.ensures,
      ← c.as_bytes-6.ensures.value,
    )
    refl
