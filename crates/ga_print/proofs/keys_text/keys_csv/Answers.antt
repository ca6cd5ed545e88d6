use Rattle.std.proofs.Common.{◌∙◌, []}
use Rattle.ga_print.specs.Keys.{keys_text}
use Rattle.ga_print.proofs.keys_text.keys_csv.Goals as goal

pub returns : goal.returns
unfolding keys_text
returns c =
    let header = c.in_ok-write_key_header.ensures [] c.new_writer-writer.ensures in
    let keys = c.in_ok-write_keys.ensures _ header in
    c.from.ensures ∙ c.in_ok-finish.ensures _ keys
