use Rattle.std.proofs.Common.{◌≡◌, ◌+◌, ◌≤◌}
use Rattle.ga_counting_tests.proofs.pairs.insert_all.Given as goal

abbrev pub invariant-loop-i : goal.invariant-loop-i
invariant-loop-i l = record {
  table : l.seat.table ≡ l.initial.seat.table;
  share : l.seat.claims.share ≡ l.initial.seat.claims.share;
  allowance : l.seat.claims.allowance + l.i ≡ l.initial.seat.claims.allowance;
  won : l.won ≤ l.i;
}
