use Rattle.std.proofs.Common.{◌≡◌, refl}
use Rattle.ga_ports.specs.SureFiles.{these_and_empty}
use Rattle.ga_ports.proofs.Sure.{no-file-faults}
use Rattle.ga_ports.proofs.laws.sure_files_have_no_faults.Goals as goal

pub returns-clause-view : goal.returns-clause-view
returns-clause-view c = λ files. record {
  listed = refl;
  names = λ contents is. let same : these_and_empty files.contents ≡ contents = cc in rw (← same) refl;
}

pub returns-clause-calls : goal.returns-clause-calls
returns-clause-calls c = λ old new sure went. no-file-faults sure went
