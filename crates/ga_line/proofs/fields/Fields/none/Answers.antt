use Rattle.std.proofs.Common.{refl}
use Rattle.ga_line.proofs.FieldLemmas.{no-text}
use Rattle.ga_line.proofs.fields.Fields.none.Goals as goal

pub returns : goal.returns
returns c = record { room = refl; texts = no-text; taken = refl }
