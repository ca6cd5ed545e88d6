use Rattle.std.proofs.Common.{sym, ◌∙◌}
use Rattle.std.proofs.lemmas.Str.{utf8_lossy-IsUtf8}
use Rattle.ga_line.proofs.record_view.utf8_in.Goals as goal

pub returns-in-Ok-clause-value : goal.returns-in-Ok-clause-value
returns-in-Ok-clause-value c = c.in-Ok.ensures.cases.0 ∙ sym (utf8_lossy-IsUtf8 c.args.bytes.now c.in-Ok.ensures.cases.1)
