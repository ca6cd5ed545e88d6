use Rattle.std.proofs.Common.{◌≡◌, length, take}
use Rattle.std.specs.List.{sum_by}
use Rattle.ga_pool.proofs.filling.pairs_in.Given as goal

abbrev pub invariant-loop-one : goal.invariant-loop-one
invariant-loop-one l = l.pairs ≡ sum_by (λ one. length one.pairs.items) (take l.one-index l.rows)
