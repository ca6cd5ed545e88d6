use Rattle.ga_agents.proofs.NameLemmas.{agent_named, file_named}
use Rattle.ga_agents.proofs.laws.names.Goals as goal

pub returns-clause-rules : goal.returns-clause-rules
returns-clause-rules c = file_named

pub returns-clause-agents : goal.returns-clause-agents
returns-clause-agents c = agent_named
