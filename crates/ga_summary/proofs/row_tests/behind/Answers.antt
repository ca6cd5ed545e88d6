use Rattle.std.proofs.Common.{arith}
use Rattle.ga_summary.proofs.NameLists.{has_name_missing}
use Rattle.ga_summary.proofs.NameTests.{behind_found}
use Rattle.ga_summary.proofs.row_tests.behind.Goals as goal

pub returns-in-Ok : goal.returns-in-Ok
returns-in-Ok c = behind_found c.args.names.now c.requires c.args.name.now c.in-Ok.at _ c.in-Ok.ensures (omega arith)

pub returns-in-Err : goal.returns-in-Err
returns-in-Err c = has_name_missing c.args.names.now c.requires c.args.name.now c.in-Err.field-0 c.in-Err.ensures
