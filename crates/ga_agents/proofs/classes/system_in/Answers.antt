use Rattle.ga_agents.proofs.ClassLemmas.{system_found, system_none}
use Rattle.ga_agents.proofs.classes.system_in.Goals as goal

pub returns-in-Some : goal.returns-in-Some
returns-in-Some c = system_found c.system_entries.result.now c.args.agent.now c.in-Some.entry.now c.system_entries.ensures c.in-Some.ensures.0

pub returns-in-None : goal.returns-in-None
returns-in-None c = system_none c.system_entries.result.now c.args.agent.now c.system_entries.ensures c.in-None.ensures
