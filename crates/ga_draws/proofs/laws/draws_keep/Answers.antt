use Rattle.ga_draws.proofs.Keeps.{event-keeps, events-keep}
use Rattle.ga_draws.proofs.laws.draws_keep.Goals as goal

pub returns-clause-event : goal.returns-clause-event
returns-clause-event c = event-keeps

pub returns-clause-events : goal.returns-clause-events
returns-clause-events c = events-keep
