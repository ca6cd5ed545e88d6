use Rattle.std.proofs.Common.{[], sym, subst}
use Rattle.ga_tallies.specs.Tallies.{IsTallyOf}
use Rattle.ga_totals.proofs.total.Total.new.Goals as goal

pub returns : goal.returns
returns c = subst (IsTallyOf []) (sym c.of.ensures) c.new-2.ensures
