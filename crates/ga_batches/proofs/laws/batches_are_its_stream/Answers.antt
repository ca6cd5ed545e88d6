use Rattle.ga_batches.proofs.FedBytes.{its-batches}
use Rattle.ga_batches.proofs.laws.batches_are_its_stream.Goals as goal

pub returns : goal.returns
returns c = its-batches
