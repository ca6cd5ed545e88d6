use Rattle.std.proofs.Common.{◌≡◌, ℕ, ◌<◌, Box, Global, get_or}
use Rattle.ga_summary.specs.declared.entry.Entry.{Entry}
use Rattle.ga_summary.specs.Steps.Entries.{IsClosed, rows_of}
use Rattle.ga_summary.proofs.room.close_all.Given as goal

abbrev pub invariant-loop-boxed : goal.invariant-loop-boxed
invariant-loop-boxed l = record {
  rows : rows_of l.entries ≡ rows_of l.fn.entries;
  closed : (i : ℕ) (d : Box Entry Global) → i < l.boxed-index → IsClosed (get_or l.entries i d).value;
}
