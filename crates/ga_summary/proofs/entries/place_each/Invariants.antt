use Rattle.std.proofs.Common.{◌≡◌, ◌+◌, ◌≤◌, vec_len, vec_capacity, length}
use Rattle.std.specs.Vec.Iter.{into_iter_items}
use Rattle.ga_summary.specs.SummaryRows.{SummaryRow}
use Rattle.ga_base.specs.Orders.{key_cmp}
use Rattle.ga_summary.specs.Steps.Entries.{AllClosed, rows_of}
use Rattle.ga_summary.specs.Steps.Joined.{put_rows}
use Rattle.ga_summary.specs.Steps.Room.{AllHavePlace, OpenAmong}
use Rattle.ga_summary.specs.Steps.Places.{Rises}
use Rattle.ga_summary.proofs.entries.place_each.Given as goal

abbrev pub invariant-loop-entry : goal.invariant-loop-entry
invariant-loop-entry l = record {
  can_next : (goal.iterator-loop-entry).can_next l.entry-iterator;
  is_finite : (goal.iterator-loop-entry).is_finite l.entry-iterator;
  rising : Rises key_cmp (λ (row : SummaryRow). row.key) (rows_of l.entries.items);
  rising_more : Rises key_cmp (λ (row : SummaryRow). row.key) (rows_of (into_iter_items l.entry-iterator));
  room : vec_len l.entries + length (into_iter_items l.entry-iterator) ≤ vec_capacity l.entries;
  closed_more : AllClosed (into_iter_items l.entry-iterator);
  opened : OpenAmong l.entries.items (into_iter_items l.entry-iterator);
  fits : AllHavePlace l.entries.items (into_iter_items l.entry-iterator);
  rest : put_rows (rows_of (into_iter_items l.entry-iterator)) (rows_of l.entries.items) ≡ put_rows (rows_of l.fn.more.items) (rows_of l.initial.entries.items);
}
