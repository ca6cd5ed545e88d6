use Rattle.ga_print.proofs.csv_text.write_with_shares.Goals as goal

pub returns : goal.returns
returns c =
    rw (
      c.as_bytes-id.ensures.value,
      c.format.ensures.text,
      c.as_bytes-hits.ensures.value,
      c.format-2.ensures.text,
      c.as_bytes-hits_share.ensures.value,
      c.requires.shares.hits,
      c.as_bytes-visitors.ensures.value,
      c.format-3.ensures.text,
      c.as_bytes-visitors_share.ensures.value,
      c.requires.shares.visitors,
      c.as_bytes-bytes.ensures.value,
      c.format-4.ensures.text,
      c.as_bytes-bytes_share.ensures.value,
      c.requires.shares.bytes,
      c.as_bytes-average.ensures.value,
      c.format-5.ensures.text,
      c.as_bytes-sum.ensures.value,
      c.format-6.ensures.text,
      c.as_bytes-greatest.ensures.value,
      c.format-7.ensures.text,
      c.bytes-method.ensures.value,
      c.bytes-protocol.ensures.value,
      c.bytes-label.ensures.value,
    ) at c.write_fields.ensures
