use Rattle.std.proofs.Common.{◌≡◌, [], length}
use Rattle.std.specs.List.{All}
use Rattle.ga_numbers.proofs.sharded_rows.no_numbers.Given as goal

abbrev pub invariant-loop : goal.invariant-loop
invariant-loop l = record {
  long : length l.numbers.items ≡ l.counter;
  none : All (λ v. v.items ≡ []) l.numbers.items;
}
