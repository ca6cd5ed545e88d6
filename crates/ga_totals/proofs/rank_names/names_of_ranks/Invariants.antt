use Rattle.std.proofs.Common.{◌≡◌, map, take}
use Rattle.ga_totals.specs.Steps.Ranks.{name_ranked}
use Rattle.ga_totals.proofs.rank_names.names_of_ranks.Given as goal

abbrev pub invariant-loop-rank : goal.invariant-loop-rank
invariant-loop-rank l = l.names.items ≡ map (λ r. name_ranked l.visitors l.firsts r) (take l.rank-index l.ranks)
