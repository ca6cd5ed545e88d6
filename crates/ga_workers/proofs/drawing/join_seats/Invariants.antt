use Rattle.std.proofs.Common.{◌≡◌, ◌+◌, ◌++◌, length, map}
use Rattle.std.specs.Prelude.{Ok}
use Rattle.std.specs.List.{flat_map}
use Rattle.std.specs.Vec.Iter.{into_iter_items}
use Rattle.ga_draws.specs.Draws.{AreAllBelow}
use Rattle.ga_workers.proofs.drawing.join_seats.Given as goal

abbrev pub invariant-loop-one : goal.invariant-loop-one
invariant-loop-one l = record {
  table : l.seat.table ≡ l.draws.table;
  share : l.seat.view.share ≡ 1 + length l.yielded;
  drawn : l.seat.view.drawn ≡ flat_map (λ one. one.seat.view.drawn) l.yielded;
  all : l.seat.view.share ≡ l.draws.shares → AreAllBelow l.seat.view.drawn;
  tallies : map (λ one. one.tally) l.yielded ≡ map Ok l.tallies.items;
  rest : l.yielded ++ into_iter_items l.one-iterator ≡ l.fn.drawn.items;
}
