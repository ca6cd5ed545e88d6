use Rattle.std.proofs.Common.{◌≡◌, take}
use Rattle.ga_summary.specs.Steps.Entries.{AllClosed, rows_of}
use Rattle.ga_summary.proofs.entries.copy_all.Given as goal

abbrev pub invariant-loop-entry : goal.invariant-loop-entry
invariant-loop-entry l = record {
  rows : rows_of l.copies.items ≡ rows_of (take l.entry-index l.entries);
  closed : AllClosed l.copies.items;
}
