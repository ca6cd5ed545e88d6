use Rattle.std.proofs.Common.{◌≡◌, ◌+◌, ◌≤◌, vec_len, vec_capacity, length}
use Rattle.std.specs.List.Sorted.{IsStrictlySortedBy}
use Rattle.std.specs.Vec.Iter.{into_iter_items}
use Rattle.ga_base.specs.Orders.{name_cmp}
use Rattle.ga_summary.specs.Steps.Joined.{put_names}
use Rattle.ga_summary.proofs.names.unite.Given as goal

abbrev pub invariant-loop-name : goal.invariant-loop-name
invariant-loop-name l = record {
  can_next : (goal.iterator-loop-name).can_next l.name-iterator;
  is_finite : (goal.iterator-loop-name).is_finite l.name-iterator;
  rising : IsStrictlySortedBy name_cmp l.names.items;
  room : vec_len l.names + length (into_iter_items l.name-iterator) ≤ vec_capacity l.names;
  rest : put_names (into_iter_items l.name-iterator) l.names.items ≡ put_names l.fn.more.items l.initial.names.items;
}
