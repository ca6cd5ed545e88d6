use Rattle.ga_counts.proofs.Keeps.{event-keeps, events-keep}
use Rattle.ga_counts.proofs.laws.counts_keep.Goals as goal

pub returns-clause-event : goal.returns-clause-event
returns-clause-event c = event-keeps

pub returns-clause-events : goal.returns-clause-events
returns-clause-events c = events-keep
