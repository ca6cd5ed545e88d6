use Rattle.std.proofs.Common.{◌≡◌, ℕ, ◌<◌, ◌≤◌, All, eqb, length, get_or, take}
use Rattle.std.specs.List.{list_any}
use Rattle.std.specs.Set.{distinct_count}
use Rattle.ga_totals.proofs.visits.count_different.Given as goal

abbrev pub invariant-loop-visitor : goal.invariant-loop-visitor
invariant-loop-visitor l = record {
  count : l.count ≡ distinct_count eqb (take l.visitor-index l.row);
  low : All (λ m. m ≤ l.mark) l.marks;
  marked : (v : ℕ) → v < length l.marks → eqb (get_or l.marks v 0) l.mark ≡ list_any (eqb v) (take l.visitor-index l.row);
}
