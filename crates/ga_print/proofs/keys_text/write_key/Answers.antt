use Rattle.ga_print.proofs.keys_text.write_key.Goals as goal

pub returns : goal.returns
returns c =
    rw (
      c.as_bytes-date.ensures.value,
      c.format.ensures.text,
      c.bytes-parent.ensures.value,
      c.bytes-label.ensures.value,
      c.bytes-method.ensures.value,
      c.bytes-protocol.ensures.value,
      c.as_bytes-hits.ensures.value,
      c.format-2.ensures.text,
      c.as_bytes-bytes.ensures.value,
      c.format-3.ensures.text,
      c.as_bytes-sum.ensures.value,
      c.format-4.ensures.text,
      c.as_bytes-greatest.ensures.value,
      c.format-5.ensures.text,
      c.as_bytes-visitors.ensures.value,
      c.format-6.ensures.text,
    ) at c.write_fields.ensures
