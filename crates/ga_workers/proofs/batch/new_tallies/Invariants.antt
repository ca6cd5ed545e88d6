use Rattle.std.proofs.Common.{◌≡◌, [], length}
use Rattle.std.specs.List.{All}
use Rattle.ga_tallies.specs.Tallies.{IsTallyOf}
use Rattle.ga_workers.proofs.batch.new_tallies.Given as goal

abbrev pub invariant-loop : goal.invariant-loop
invariant-loop l = record {
  len : length l.tallies.items ≡ l.counter;
  none : All (IsTallyOf []) l.tallies.items;
}
