use Rattle.ga_store.proofs.SomeDatabase.{some-database}
use Rattle.ga_store.proofs.laws.some_database.Goals as goal

pub returns : goal.returns
returns c = some-database
