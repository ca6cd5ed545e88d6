use Rattle.std.proofs.Common.{◌≡◌, ◌+◌, ◌∙◌, sym, ap, subst, arith, length}
use Rattle.ga_batches.specs.Batches.{BatcherSeen, held}
use Rattle.ga_batches.specs.Steps.{GoesOn}
use Rattle.ga_batches.proofs.GoingOn.{goes-on, held-long}
use Rattle.ga_batches.proofs.batcher.Batcher.go_on.Goals as goal

pub returns : goal.returns
returns c =
    let old = c.args.self.now in
    let bytes = c.args.bytes.now in
    let kept = c.kept_of-kept.result in
    let taken = c.taken_of-taken.result in
    let part = c.kept_of-kept.ensures in
    let long : length (held c.hold.new.self) ≡ length (held old) + kept =
    ap (λ (v : BatcherSeen). length (held v)) c.hold.ensures ∙ held-long bytes kept old (omega arith) in
    let limit : c.hold.new.self.limit ≡ old.limit = ap (λ (v : BatcherSeen). v.limit) c.hold.ensures in
    let after = c.count.ensures ∙ ap (λ (v : BatcherSeen). record v { fed = v.fed + taken }) c.hold.ensures in
    record {
      goes_on = subst (λ v. GoesOn taken bytes old v) (sym after)
          (goes-on bytes kept taken old c.recall_invariant.ensures c.requires.room part
          (λ less. c.taken_of-taken.ensures.all (omega arith))
          (λ filled. c.taken_of-taken.ensures.full (omega arith)));
    }
