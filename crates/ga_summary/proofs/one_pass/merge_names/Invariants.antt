use Rattle.std.proofs.Common.{◌≡◌, ◌+◌, ◌≤◌, ◌++◌, [], IfNone, length, vec_len, vec_capacity}
use Rattle.std.specs.List.Sorted.{IsStrictlySortedBy}
use Rattle.std.specs.Option.{option_to_list}
use Rattle.std.specs.Vec.Iter.{into_iter_items}
use Rattle.ga_base.specs.Orders.{name_cmp}
use Rattle.ga_summary.specs.Steps.Joined.{put_names}
use Rattle.ga_summary.proofs.one_pass.merge_names.Given as goal

abbrev pub invariant-names : goal.invariant-names
invariant-names l = record {
  rising_left : IsStrictlySortedBy name_cmp (option_to_list l.next_left ++ into_iter_items l.left);
  rising_right : IsStrictlySortedBy name_cmp (option_to_list l.next_right ++ into_iter_items l.right);
  ended_left : IfNone l.next_left (into_iter_items l.left ≡ []);
  ended_right : IfNone l.next_right (into_iter_items l.right ≡ []);
  room : vec_len l.out + (length (option_to_list l.next_left ++ into_iter_items l.left) + length (option_to_list l.next_right ++ into_iter_items l.right)) ≤ vec_capacity l.out;
  rest : l.out.items ++ put_names (option_to_list l.next_right ++ into_iter_items l.right) (option_to_list l.next_left ++ into_iter_items l.left) ≡ put_names l.fn.right.items l.fn.left.items;
}

abbrev pub decreases-names : goal.decreases-names
decreases-names l = length (option_to_list l.next_left ++ into_iter_items l.left) + length (option_to_list l.next_right ++ into_iter_items l.right)
