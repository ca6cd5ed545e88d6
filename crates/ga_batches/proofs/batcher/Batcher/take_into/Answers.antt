use Rattle.std.proofs.Common.{◌++◌, List, ℕ, sym, subst}
use Rattle.ga_batches.specs.Batches.{Holds}
use Rattle.ga_batches.proofs.Feeding.{holds-taken}
use Rattle.ga_batches.proofs.batcher.Batcher.take_into.Goals as goal

pub returns-clause-stream : goal.returns-clause-stream
returns-clause-stream c stream taken holds =
    subst (λ (batch : List ℕ). Holds stream (taken ++ batch) c.exchange.new.self) (sym c.exchange.ensures.batch)
    (subst (λ v. Holds stream (taken ++ c.args.self.now.batch) v) (sym c.exchange.ensures.value) (holds-taken c.args.self.now c.recall_invariant.ensures stream taken holds))
