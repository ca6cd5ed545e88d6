use Rattle.std.proofs.Common.{◌≡◌, ◌+◌, ◌++◌, map, take}
use Rattle.ga_pool.specs.Steps.Filling.{claim_of, numbers_at}
use Rattle.ga_pool.proofs.putting.claim_pairs.Given as goal

abbrev pub invariant-loop-pair : goal.invariant-loop-pair
invariant-loop-pair l = record {
  table : l.seat.table ≡ l.set.table;
  share : l.seat.claims.share ≡ l.initial.seat.claims.share;
  allowance : l.seat.claims.allowance + l.pair-index ≡ l.initial.seat.claims.allowance;
  asked : l.seat.claims.asked ≡ l.initial.seat.claims.asked ++ map (claim_of (numbers_at l.keys.numbers l.worker) (numbers_at l.visitors.numbers l.worker)) (take l.pair-index l.pairs);
}
