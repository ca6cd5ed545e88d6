use Rattle.std.proofs.Common.{take}
use Rattle.std.proofs.lemmas.Str.{IsAscii-take, IsUtf8-from_ascii}
use Rattle.ga_panels.proofs.labels.Digits.front.Goals as goal

pub from_utf8_unchecked-requires : goal.from_utf8_unchecked-requires
from_utf8_unchecked-requires g c = IsUtf8-from_ascii (take c.args.len c.self.inside.bytes) (IsAscii-take c.self.inside.bytes c.args.len c.self.invariant)
