use Rattle.std.proofs.Common.{◌≡◌, ◌+◌, ◌++◌, ◌∙◌, length, drop, List, ℕ, sym, ap, arith, length-append}
use Rattle.ga_batches.specs.Batches.{BatcherSeen, held}
use Rattle.ga_batches.proofs.GoingOn.{appended, held-parts, more-batcher, parts-more}
use Rattle.ga_batches.proofs.batcher.Batcher.hold.Goals as goal

pub unwrap-requires : goal.unwrap-requires
unwrap-requires c =
    let b = c.self.inside in
    let view = sym c.self.view_is in
    let long : length (held c.args.self.now) ≡ length b.bytes.items = ap (λ (v : BatcherSeen). length (held v)) view ∙ held-parts b.bytes.items b.begun b.fed b.ended b.limit b.is_over in
    let limit : c.args.self.now.limit ≡ b.limit = ap (λ (v : BatcherSeen). v.limit) view in
    let len = b.bytes.ok.0 in
    let room = c.requires.room in
    let capacity = c.self.invariant.1 in
    c.extend_from_slice.ensures.succeeds (omega arith)

pub invariant_of-self : goal.invariant_of-self
invariant_of-self c =
    let b = c.self.inside in
    let items = b.bytes.items in
    let new = c.extend_from_slice.new.self in
    let view = sym c.self.view_is in
    let long : length (held c.args.self.now) ≡ length items = ap (λ (v : BatcherSeen). length (held v)) view ∙ held-parts items b.begun b.fed b.ended b.limit b.is_over in
    let limit : c.args.self.now.limit ≡ b.limit = ap (λ (v : BatcherSeen). v.limit) view in
    let begun : length c.args.self.now.begun ≡ length (drop b.begun items) = ap (λ (v : BatcherSeen). length v.begun) view in
    let going = ap (λ (v : BatcherSeen). v.is_over) c.self.view_is ∙ c.requires.going in
    let len = b.bytes.ok.0 in
    let len' = new.ok.0 in
    let room = c.requires.room in
    let line = c.requires.line in
    let inside = c.self.invariant.0 in
    let capacity = c.self.invariant.1 in
    let grown = c.extend_from_slice.ensures.capacity in
    let more : new.items ≡ items ++ c.args.bytes.now =
    appended c.extend_from_slice.result items c.args.bytes.now new.items (c.extend_from_slice.ensures.succeeds (omega arith)) c.extend_from_slice.ensures.items in
    let longer : length new.items ≡ length items + length c.args.bytes.now = ap (λ (xs : List ℕ). length xs) more ∙ length-append items c.args.bytes.now in (
      omega arith,
      omega arith,
      more-batcher items c.args.bytes.now new.items b.begun b.fed b.ended b.limit b.is_over (omega arith) more c.self.invariant.2 c.requires.none (omega arith) (omega arith) going,
    )

pub returns : goal.returns
returns c =
    let b = c.self.inside in
    let items = b.bytes.items in
    let view = sym c.self.view_is in
    let long : length (held c.args.self.now) ≡ length items = ap (λ (v : BatcherSeen). length (held v)) view ∙ held-parts items b.begun b.fed b.ended b.limit b.is_over in
    let limit : c.args.self.now.limit ≡ b.limit = ap (λ (v : BatcherSeen). v.limit) view in
    let len = b.bytes.ok.0 in
    let room = c.requires.room in
    let inside = c.self.invariant.0 in
    let capacity = c.self.invariant.1 in
    let new = c.extend_from_slice.new.self in
    let more : new.items ≡ items ++ c.args.bytes.now =
    appended c.extend_from_slice.result items c.args.bytes.now new.items (c.extend_from_slice.ensures.succeeds (omega arith)) c.extend_from_slice.ensures.items in
    parts-more items c.args.bytes.now new.items b.begun b.fed b.ended b.limit b.is_over (omega arith) more
    ∙ ap (λ (v : BatcherSeen). record v { begun = v.begun ++ c.args.bytes.now }) c.self.view_is
