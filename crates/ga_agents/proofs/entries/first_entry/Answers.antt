use Rattle.std.proofs.Common.{subst}
use Rattle.ga_agents.specs.Steps.{IsPlace}
use Rattle.ga_agents.proofs.OccurLemmas.{entry_found}
use Rattle.ga_agents.proofs.entries.first_entry.Goals as goal

pub returns-in-Some : goal.returns-in-Some
returns-in-Some g c =
    let place = subst (λ token. IsPlace token c.args.agent.now c.in-Some.at) c.token.ensures c.in-Some.ensures in
    (entry_found g.E.HasToken.token_of c.args.entries.now c.args.agent.now c.loop-entry.entry-index c.entry-item.result c.in-Some.at c.loop-entry-test.true c.entry-item.is c.loop-entry.invariant place, place)
