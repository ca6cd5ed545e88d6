use Rattle.std.proofs.Common.{◌≡◌, ◌≤◌}
use Rattle.ga_summary.proofs.DayPlaces.{before}
use Rattle.ga_summary.proofs.trim.count_days.Given as goal

abbrev pub invariant-loop-entry : goal.invariant-loop-entry
invariant-loop-entry l = record {
  counted : l.days ≡ before l.entries l.entry-index;
  most : l.days ≤ l.entry-index;
}
