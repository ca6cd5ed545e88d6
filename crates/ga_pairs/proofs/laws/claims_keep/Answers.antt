use Rattle.ga_pairs.proofs.Keeps.{event-keeps, events-keep, cells-keep}
use Rattle.ga_pairs.proofs.laws.claims_keep.Goals as goal

pub returns-clause-event : goal.returns-clause-event
returns-clause-event c = event-keeps

pub returns-clause-events : goal.returns-clause-events
returns-clause-events c = events-keep

pub returns-clause-cells : goal.returns-clause-cells
returns-clause-cells c = cells-keep
