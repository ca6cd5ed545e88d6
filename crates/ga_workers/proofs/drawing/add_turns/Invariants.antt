use Rattle.std.proofs.Common.{◌≡◌, ◌+◌, ◌-◌, ◌*◌, ◌++◌, length, map}
use Rattle.std.specs.List.{All}
use Rattle.std.specs.Vec.Iter.{into_iter_items}
use Rattle.ga_draws.specs.Draws.{given}
use Rattle.ga_workers.proofs.drawing.add_turns.Given as goal

abbrev pub invariant-loop-tally : goal.invariant-loop-tally
invariant-loop-tally l = record {
  table : l.seat.table ≡ l.draws.table;
  view : l.seat.view ≡ given (length l.fn.tallies.items + 1 - length l.yielded) ((length l.fn.tallies.items - length l.yielded) * l.most);
  tallies : map (λ turn. turn.tally) l.turns.items ≡ l.yielded;
  rest : l.yielded ++ into_iter_items l.tally-iterator ≡ l.fn.tallies.items;
  each : All (λ turn. (turn.seat.table ≡ l.draws.table) × (turn.seat.view ≡ given 1 l.most)) l.turns.items;
}
