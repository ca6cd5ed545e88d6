use Rattle.ga_totals.proofs.Ranking.{HaveRanks}
use Rattle.ga_totals.proofs.ranks.rank.Given as goal

abbrev pub invariant-loop-entry : goal.invariant-loop-entry
invariant-loop-entry l = HaveRanks l.visitors l.order l.entry-index l.firsts.items l.ranks.items
