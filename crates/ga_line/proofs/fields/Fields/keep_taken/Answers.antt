use Rattle.std.proofs.Common.{refl}
use Rattle.ga_line.proofs.ShapeLemmas.{kept-noted}
use Rattle.ga_line.proofs.fields.Fields.keep_taken.Goals as goal

pub returns : goal.returns
returns c = λ before own are first. kept-noted before own c.args.self.now _ are refl first
