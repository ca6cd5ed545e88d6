use Rattle.ga_agents.proofs.AgentLemmas.{told_crawler}
use Rattle.ga_agents.proofs.laws.crawlers_are_told.Goals as goal

pub returns : goal.returns
returns c = told_crawler
