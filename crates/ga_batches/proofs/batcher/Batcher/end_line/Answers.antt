use Rattle.std.proofs.Common.{◌≡◌, ◌++◌, ◌∷◌, [], ◌∙◌, length, sym, ap, arith}
use Rattle.ga_batches.specs.Batches.{BatcherSeen, held}
use Rattle.ga_base.specs.declared.limits.TheConstants.{LINE_FEED}
use Rattle.ga_batches.proofs.GoingOn.{appended, held-parts, ended-batcher}
use Rattle.ga_batches.proofs.batcher.Batcher.end_line.Goals as goal

pub invariant_of-self : goal.invariant_of-self
invariant_of-self c =
    let b = c.self.inside in
    let items = b.bytes.items in
    let new = c.push.new.self in
    let view = sym c.self.view_is in
    let long : length (held c.args.self.now) ≡ length items = ap (λ (v : BatcherSeen). length (held v)) view ∙ held-parts items b.begun b.fed b.ended b.limit b.is_over in
    let limit : c.args.self.now.limit ≡ b.limit = ap (λ (v : BatcherSeen). v.limit) view in
    let going = ap (λ (v : BatcherSeen). v.is_over) c.self.view_is ∙ c.requires.going in
    let len = b.bytes.ok.0 in
    let len' = new.ok.0 in
    let room = c.requires.room in
    let inside = c.self.invariant.0 in
    let capacity = c.self.invariant.1 in
    let grown = c.push.ensures.capacity in
    let told = c.len-self-inside.ensures in
    let more : new.items ≡ items ++ LINE_FEED ∷ [] =
    appended c.push.result items (LINE_FEED ∷ []) new.items (c.push.ensures.succeeds (omega arith)) c.push.ensures.items in (
      omega arith,
      omega arith,
      ended-batcher items new.items b.begun b.fed b.ended b.limit c.len-self-inside.result b.is_over (omega arith) more (omega arith) c.self.invariant.2 going (omega arith),
    )
