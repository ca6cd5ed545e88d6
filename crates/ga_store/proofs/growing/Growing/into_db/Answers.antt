use Rattle.std.proofs.Common.{◌∙◌, ap}
use Rattle.ga_store.specs.Database.{with_last_days}
use Rattle.ga_store.proofs.growing.Growing.into_db.Goals as goal

pub returns : goal.returns
returns c = c.keep_last_days.ensures ∙ ap with_last_days c.in_ok-db.ensures
