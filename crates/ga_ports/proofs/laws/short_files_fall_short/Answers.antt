use Rattle.std.proofs.Common.{refl}
use Rattle.ga_ports.proofs.CutFiles.{behind-cut}
use Rattle.ga_ports.proofs.laws.short_files_fall_short.Goals as goal

pub returns-clause-view : goal.returns-clause-view
returns-clause-view c = λ files. record {
  listed = refl;
  names = λ contents is. absurd (cc is);
}

pub returns-clause-short : goal.returns-clause-short
returns-clause-short c = behind-cut
