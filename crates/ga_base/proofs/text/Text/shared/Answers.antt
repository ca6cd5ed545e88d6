use Rattle.std.proofs.lemmas.Str.{IsUtf8-string_bytes}
use Rattle.ga_base.proofs.text.Text.shared.Goals as goal

pub invariant_of-result : goal.invariant_of-result
invariant_of-result c = (IsUtf8-string_bytes c.in_ok-new.field-0.value, tt)
