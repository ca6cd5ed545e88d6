use Rattle.ga_summary.proofs.RowLookups.{row_found, row_missing}
use Rattle.ga_summary.proofs.entries.entry_of.Goals as goal

pub returns-in-Ok : goal.returns-in-Ok
returns-in-Ok c = rw (c.deref.ensures) (row_found c.args.entries.now c.args.key.now c.in-Ok.at c.index-entries-at.result c.in-Ok.ensures c.index-entries-at.is)

pub returns-in-Err : goal.returns-in-Err
returns-in-Err c = row_missing c.args.entries.now c.args.key.now c.in-Err.field-0 c.requires c.in-Err.ensures
