use Rattle.ga_print.proofs.csv_text.write_number.Goals as goal

pub returns : goal.returns
returns c = rw (c.as_bytes-id.ensures.value, c.format.ensures.text, c.as_bytes-n.ensures.value, c.format-2.ensures.text) at c.write_fields.ensures
