use Rattle.std.proofs.Common.{take}
use Rattle.ga_agents.specs.Occurs.{NoneOccurs}
use Rattle.ga_agents.proofs.entries.first_entry.Given as goal

abbrev pub invariant-loop-entry : goal.invariant-loop-entry
invariant-loop-entry g l = NoneOccurs g.E.HasToken.token_of (take l.entry-index l.entries) l.agent
