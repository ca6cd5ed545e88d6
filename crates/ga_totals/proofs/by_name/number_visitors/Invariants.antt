use Rattle.ga_totals.specs.Steps.Ranks.{AreNumbered}
use Rattle.ga_totals.proofs.by_name.number_visitors.Given as goal

abbrev pub invariant-loop-number : goal.invariant-loop-number
invariant-loop-number l = AreNumbered l.visitors l.number l.all.items
