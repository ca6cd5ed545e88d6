-- Agents of which it is known what they are.
use Rattle.std.specs.Prelude.{ℕ, List, Option, IfSome, All}
use Rattle.ga_agents.specs.Classes.{HasNames, IsAgent}
use Rattle.ga_agents.specs.declared.agent.Agent.{Agent}
use Rattle.ga_agents.specs.declared.row.Rule.{Rule}
use Rattle.ga_tallies.specs.declared.agents.KnownAgent.{KnownAgent}

-- this is what the rules say of an agent, and none of its texts is empty
pub record IsTold (rules : List Rule) (text : List ℕ) (is : Agent) : Type 0 where
  pub agent : IsAgent rules text is
  pub named : HasNames is

-- each agent that is kept at a place is what the rules say of its text
abbrev pub AreAgents : List Rule → List (Option KnownAgent) → Type 0
AreAgents rules places = All (λ place. IfSome place (λ known. IsTold rules known.text known.agent)) places
