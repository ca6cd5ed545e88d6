use Rattle.ga_line.proofs.KnownTexts.{known-utf8}
use Rattle.ga_line.proofs.asking.known_text.Goals as goal

pub from_utf8_unchecked-requires : goal.from_utf8_unchecked-requires
from_utf8_unchecked-requires c = known-utf8 c.args.bytes.now c.requires
