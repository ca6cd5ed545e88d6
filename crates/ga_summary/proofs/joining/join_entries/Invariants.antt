use Rattle.std.proofs.Common.{◌≡◌, ◌+◌, ◌≤◌, ◌++◌, [], IfNone, length, vec_len, vec_capacity}
use Rattle.std.specs.Option.{option_to_list}
use Rattle.std.specs.Vec.Iter.{into_iter_items}
use Rattle.ga_summary.specs.Steps.Entries.{AllClosed, rows_of}
use Rattle.ga_summary.specs.Steps.Joined.{put_rows}
use Rattle.ga_base.specs.Orders.{key_cmp}
use Rattle.ga_summary.specs.Steps.Places.{Rises}
use Rattle.ga_summary.specs.Steps.Room.{AllCanGrow}
use Rattle.ga_summary.specs.SummaryRows.{SummaryRow}
use Rattle.ga_summary.proofs.joining.join_entries.Given as goal

abbrev pub invariant-entries : goal.invariant-entries
invariant-entries l = record {
  rising_left : Rises key_cmp (λ (row : SummaryRow). row.key) (rows_of (option_to_list l.next_left ++ into_iter_items l.left));
  rising_right : Rises key_cmp (λ (row : SummaryRow). row.key) (rows_of (option_to_list l.next_right ++ into_iter_items l.right));
  ended_left : IfNone l.next_left (into_iter_items l.left ≡ []);
  ended_right : IfNone l.next_right (into_iter_items l.right ≡ []);
  room : vec_len l.out + (length (option_to_list l.next_left ++ into_iter_items l.left) + length (option_to_list l.next_right ++ into_iter_items l.right)) ≤ vec_capacity l.out;
  closed : AllClosed l.out.items;
  grows_left : AllCanGrow (option_to_list l.next_left ++ into_iter_items l.left);
  grows_right : AllCanGrow (option_to_list l.next_right ++ into_iter_items l.right);
  rest : rows_of l.out.items ++ put_rows (rows_of (option_to_list l.next_right ++ into_iter_items l.right)) (rows_of (option_to_list l.next_left ++ into_iter_items l.left)) ≡ put_rows (rows_of l.fn.right.items) (rows_of l.fn.left.items);
}

abbrev pub decreases-entries : goal.decreases-entries
decreases-entries l = length (option_to_list l.next_left ++ into_iter_items l.left) + length (option_to_list l.next_right ++ into_iter_items l.right)
