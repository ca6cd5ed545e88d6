use Rattle.std.proofs.Common.{sym, subst, true, false}
use Rattle.ga_batches.specs.Batches.{HoldsLast, IsBatcher}
use Rattle.ga_batches.proofs.Feeding.{kept-batcher, holds-kept, holds-dropped}
use Rattle.ga_batches.proofs.batcher.Batcher.end.Goals as goal

pub returns-then-keep-clause-batcher : goal.returns-then-keep-clause-batcher
returns-then-keep-clause-batcher c = subst IsBatcher (sym c.keep_begun.ensures.value) (kept-batcher c.args.self.now c.recall_invariant.ensures)

pub returns-then-keep-clause-stream : goal.returns-then-keep-clause-stream
returns-then-keep-clause-stream c stream taken holds =
    subst (λ k. HoldsLast stream k taken c.keep_begun.new.self) (sym c.if-keep.true)
    (subst (λ v. HoldsLast stream true taken v) (sym c.keep_begun.ensures.value) (holds-kept c.args.self.now stream taken holds))

pub returns-clause-stream : goal.returns-clause-stream
returns-clause-stream c stream taken holds =
    subst (λ k. HoldsLast stream k taken c.drop_begun.new.self) (sym c.if-keep.false)
    (subst (λ v. HoldsLast stream false taken v) (sym c.drop_begun.ensures.value) (holds-dropped c.args.self.now c.recall_invariant.ensures stream taken holds))
