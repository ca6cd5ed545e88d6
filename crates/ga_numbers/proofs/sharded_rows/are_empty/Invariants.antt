use Rattle.std.proofs.Common.{◌≡◌, [], take}
use Rattle.std.specs.List.{All}
use Rattle.ga_numbers.proofs.sharded_rows.are_empty.Given as goal

abbrev pub invariant-loop-rows : goal.invariant-loop-rows
invariant-loop-rows l = All (λ rows. rows ≡ []) (take l.rows-index l.others)
