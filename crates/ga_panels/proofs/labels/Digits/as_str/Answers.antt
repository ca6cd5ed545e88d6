use Rattle.std.proofs.lemmas.Str.{IsUtf8-from_ascii}
use Rattle.ga_panels.proofs.labels.Digits.as_str.Goals as goal

pub from_utf8_unchecked-requires : goal.from_utf8_unchecked-requires
from_utf8_unchecked-requires g c = IsUtf8-from_ascii c.self.inside.bytes c.self.invariant
