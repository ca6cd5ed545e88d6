use Rattle.std.proofs.Common.{sym, subst, ◌∙◌, MatchOption}
use Rattle.std.proofs.lemmas.Bool.{false≢true}
use Rattle.ga_agents.specs.Occurs.{Occurs}
use Rattle.ga_agents.specs.Steps.{IsPlace}
use Rattle.ga_agents.proofs.OccurLemmas.{lacking_none, place_found}
use Rattle.ga_agents.proofs.agent_text.AgentText.find.Goals as goal

pub returns-then-not-has_all : goal.returns-then-not-has_all
returns-then-not-has_all c =
    subst (λ agent. ¬ Occurs c.args.token.now agent) c.self.view_is
    (lacking_none c.self.inside.pairs c.args.token.now c.self.inside.text.now c.self.invariant (λ all. false≢true (sym c.if-not-has_all.true ∙ c.has_all.ensures.1 all)))

pub returns : goal.returns
returns c =
    subst (λ agent. MatchOption c.find.result (¬ Occurs c.args.token.now agent) (IsPlace c.args.token.now agent)) c.self.view_is
    (place_found c.args.token.now c.self.inside.text.now c.find.result c.find.ensures.cases)
