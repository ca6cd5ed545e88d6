use Rattle.ga_format.proofs.Answering.{formats_are_sound}
use Rattle.ga_format.proofs.laws.formats_are_sound.Goals as goal

pub returns : goal.returns
returns c = formats_are_sound
