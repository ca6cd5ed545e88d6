use Rattle.std.proofs.Common.{◌≡◌, get_or, map, take}
use Rattle.ga_totals.proofs.rank_names.ranks_of.Given as goal

abbrev pub invariant-loop-number : goal.invariant-loop-number
invariant-loop-number l = l.all.items ≡ map (λ v. get_or l.ranks v 0) (take l.number-index l.row)
