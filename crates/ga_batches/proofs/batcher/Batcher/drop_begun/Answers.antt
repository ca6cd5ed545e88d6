use Rattle.std.proofs.Common.{length, arith, length-take, List, ℕ, ap}
use Rattle.ga_batches.proofs.GoingOn.{dropped-parts}
use Rattle.ga_batches.proofs.batcher.Batcher.drop_begun.Goals as goal

pub invariant_of-self : goal.invariant_of-self
invariant_of-self c =
    let b = c.self.inside in
    let new = c.truncate.new.self in
    let len = b.bytes.ok.0 in
    let len' = new.ok.0 in
    let inside = c.self.invariant.0 in
    let capacity = c.self.invariant.1 in
    let same = c.truncate.ensures.capacity in
    let long = ap (λ (xs : List ℕ). length xs) c.truncate.ensures.items in (
      omega (arith, length-take b.begun b.bytes.items),
      omega arith,
      dropped-parts b.bytes.items b.begun b.fed b.ended b.limit b.is_over c.self.invariant.2 new.items c.truncate.ensures.items,
    )
