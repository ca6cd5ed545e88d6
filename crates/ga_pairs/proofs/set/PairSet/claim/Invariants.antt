use Rattle.std.proofs.Common.{◌≡◌, ◌+◌, ◌<◌}
use Rattle.ga_pairs.specs.Pairs.{place_after}
use Rattle.ga_pairs.specs.Events.{passed_of, IsFreeFor}
use Rattle.ga_pairs.proofs.set.PairSet.claim.Given as goal

abbrev pub invariant-loop-passed : goal.invariant-loop-passed
invariant-loop-passed g l = record {
  table : (l.seat.table_id ≡ l.initial.seat.table_id) × (l.seat.id ≡ l.initial.seat.id);
  slots : l.seat.me.1 ≡ l.initial.seat.me.1;
  claims : l.seat.me.0.claims ≡ l.initial.seat.me.0.claims;
  free : IsFreeFor l.seat.me.0 g.A.Asked.pair;
  passed : passed_of l.seat.me.0 ≡ l._passed;
  within : l._passed < l.self.opening.cells;
  place : l.at ≡ place_after l.self.opening.cells g.A.Asked.pair l._passed;
  steps : l.steps ≡ l.initial.steps + l._passed;
}
