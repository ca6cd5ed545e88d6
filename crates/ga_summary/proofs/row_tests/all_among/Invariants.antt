use Rattle.std.proofs.Common.{◌≡◌, ℕ, ◌<◌, ◌≤◌, true, length, get_or}
use Rattle.std.specs.List.Sorted.{IsStrictlySortedBy}
use Rattle.ga_base.specs.declared.name.Name.{Name}
use Rattle.ga_base.specs.Orders.{name_cmp}
use Rattle.ga_summary.specs.SummaryRows.{has_name}
use Rattle.ga_summary.proofs.row_tests.all_among.Given as goal

abbrev pub invariant-loop-name : goal.invariant-loop-name
invariant-loop-name l = record {
  rising : IsStrictlySortedBy name_cmp l.left;
  found : (k : ℕ) (d : Name) → k < l.name-index → has_name l.among (get_or l.names k d) ≡ true;
  rest : (k : ℕ) (d : Name) → l.name-index ≤ k → k < length l.names → has_name l.left (get_or l.names k d) ≡ has_name l.among (get_or l.names k d);
}
