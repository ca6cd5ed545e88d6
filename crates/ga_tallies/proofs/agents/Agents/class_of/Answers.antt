use Rattle.std.proofs.Common.{sym, subst}
use Rattle.ga_tallies.specs.Agents.{IsTold}
use Rattle.ga_tallies.proofs.agents.Agents.class_of.Goals as goal

pub returns-in-Some : goal.returns-in-Some
returns-in-Some c = subst (IsTold c.args.rules.now c.args.agent.text.now) (sym c.class_in.ensures) (c.in-Some.ensures c.args.rules.now c.requires)
