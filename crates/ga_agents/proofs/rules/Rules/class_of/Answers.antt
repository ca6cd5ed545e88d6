use Rattle.std.proofs.Common.{◌++◌, ◌∙◌, subst}
use Rattle.ga_agents.specs.Classes.{AreNamed, HasBrowser, HasSystem}
use Rattle.ga_agents.specs.Tables.{builtin_rules}
use Rattle.ga_agents.proofs.NameLemmas.{agent_named}
use Rattle.ga_agents.proofs.rules.Rules.class_of.Goals as goal

pub returns-clause-agent : goal.returns-clause-agent
returns-clause-agent c =
    let browser = c.browser_in-browser.result in
    let system = c.system_in-system.result in
    record {
      browser = subst (λ rules. HasBrowser (rules ++ builtin_rules) c.args.agent.now browser.name.now browser.category.now) (c.items.ensures ∙ c.self.view_is)
          (subst (λ agent. HasBrowser (c.items.result.now ++ builtin_rules) agent browser.name.now browser.category.now) c.of-agent.ensures c.browser_in-browser.ensures);
      system = subst (λ agent. HasSystem agent system.name.now system.group.now) c.of-agent.ensures c.system_in-system.ensures;
      crawler = c.is_crawlers.ensures;
    }

pub returns-clause-named : goal.returns-clause-named
returns-clause-named c = agent_named c.args.self.now c.args.agent.now _ (subst AreNamed c.self.view_is c.self.invariant) (returns-clause-agent c)
