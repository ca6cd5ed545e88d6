use Rattle.std.proofs.Common.{◌≡◌, ◌+◌, ◌≤◌}
use Rattle.ga_counts.specs.Counts.{tally_at}
use Rattle.ga_counting_tests.proofs.counts.count.Given as goal

abbrev pub invariant-loop : goal.invariant-loop
invariant-loop l = record {
  table : l.seat.table ≡ l.initial.seat.table;
  share : l.seat.view.share ≡ l.initial.seat.view.share;
  allowance : l.seat.view.allowance ≡ l.initial.seat.view.allowance;
  tally : tally_at 0 l.seat.view ≤ tally_at 0 l.initial.seat.view + l.counter;
}
