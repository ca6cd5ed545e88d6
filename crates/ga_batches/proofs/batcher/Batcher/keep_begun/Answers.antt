use Rattle.std.proofs.Common.{arith}
use Rattle.ga_batches.proofs.GoingOn.{kept-parts}
use Rattle.ga_batches.proofs.batcher.Batcher.keep_begun.Goals as goal

pub invariant_of-self : goal.invariant_of-self
invariant_of-self c =
    let b = c.self.inside in
    let len = b.bytes.ok.0 in
    let told = c.len-self-inside.ensures in (
      omega arith,
      c.self.invariant.1,
      kept-parts b.bytes.items b.begun b.fed b.ended b.limit b.is_over c.self.invariant.2 c.len-self-inside.result (omega arith),
    )
