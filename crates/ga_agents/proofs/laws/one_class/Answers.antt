use Rattle.ga_agents.proofs.AgentLemmas.{one_agent}
use Rattle.ga_agents.proofs.SomeAnswer.{some_agent}
use Rattle.ga_agents.proofs.laws.one_class.Goals as goal

pub returns-clause-some : goal.returns-clause-some
returns-clause-some c = some_agent

pub returns-clause-one : goal.returns-clause-one
returns-clause-one c = one_agent
