use Rattle.std.proofs.Common.{◌≡◌, ℕ, ◌<◌, Box, Global, get_or, vec_len, vec_capacity}
use Rattle.ga_summary.specs.declared.entry.Entry.{Entry}
use Rattle.ga_summary.specs.Steps.Entries.{rows_of}
use Rattle.ga_summary.specs.Steps.Room.{HasRoom, OpenAmong}
use Rattle.ga_summary.proofs.room.reserve_all_names.Given as goal

abbrev pub invariant-loop-entry : goal.invariant-loop-entry
invariant-loop-entry l = record {
  rows : rows_of l.entries.items ≡ rows_of l.fn.entries.items;
  len : vec_len l.entries ≡ vec_len l.fn.entries;
  capacity : vec_capacity l.entries ≡ vec_capacity l.fn.entries;
  opened : OpenAmong l.entries.items l.more;
  names : (i : ℕ) (d : Box Entry Global) → i < l.entry-index → HasRoom l.entries.items (get_or l.more i d).value;
}
