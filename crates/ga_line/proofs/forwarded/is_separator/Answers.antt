use Rattle.std.proofs.Common.{◌∙◌}
use Rattle.ga_line.proofs.SeparatorLemmas.{any-in}
use Rattle.ga_line.proofs.forwarded.is_separator.Goals as goal

pub returns : goal.returns
returns c = c.contains.ensures.value ∙ any-in c.args.separators.now c.args.byte
