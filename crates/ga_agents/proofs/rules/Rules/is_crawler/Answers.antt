use Rattle.std.proofs.Common.{◌↔◌, ◌∙◌, false, subst}
use Rattle.std.specs.Prelude.{IsTrue}
use Rattle.ga_agents.specs.Classes.{IsCrawler}
use Rattle.ga_agents.proofs.AgentLemmas.{crawler_found, crawler_none, crawler_agrees}
use Rattle.ga_agents.proofs.rules.Rules.is_crawler.Goals as goal

pub returns-in-Some-clause-crawler : goal.returns-in-Some-clause-crawler
returns-in-Some-clause-crawler c =
    let answer = c.is_crawlers.result in
    subst (λ file. IsTrue answer ↔ IsCrawler file c.args.agent.now) (c.items.ensures ∙ c.self.view_is)
    (subst (λ agent. IsTrue answer ↔ IsCrawler c.items.result.now agent) (c.of.ensures ∙ c.as_str.ensures)
    (crawler_found c.items.result.now c.of.result c.in-Some.found answer c.in-Some.ensures c.is_crawlers.ensures))

pub returns-in-Some-clause-agrees : goal.returns-in-Some-clause-agrees
returns-in-Some-clause-agrees c = crawler_agrees c.args.self.now c.args.agent.now c.is_crawlers.result (returns-in-Some-clause-crawler c)

pub returns-in-None-clause-crawler : goal.returns-in-None-clause-crawler
returns-in-None-clause-crawler c =
    subst (λ file. IsTrue false ↔ IsCrawler file c.args.agent.now) (c.items.ensures ∙ c.self.view_is)
    (subst (λ agent. IsTrue false ↔ IsCrawler c.items.result.now agent) (c.of.ensures ∙ c.as_str.ensures)
    (crawler_none c.items.result.now c.of.result c.in-None.ensures))

pub returns-in-None-clause-agrees : goal.returns-in-None-clause-agrees
returns-in-None-clause-agrees c = crawler_agrees c.args.self.now c.args.agent.now false (returns-in-None-clause-crawler c)
