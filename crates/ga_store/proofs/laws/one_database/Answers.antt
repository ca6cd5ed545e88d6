use Rattle.ga_store.proofs.OneDatabase.{one-database}
use Rattle.ga_store.proofs.laws.one_database.Goals as goal

pub returns : goal.returns
returns c = one-database c.one_reading.ensures.value c.one_delta_reading.ensures.value
