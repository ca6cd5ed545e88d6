use Rattle.std.proofs.Common.{◌≡◌, ◌∷◌, [], ◌++◌, List, map, take, get_or, sym, ap, ◌∙◌, arith, append_assoc}
use Rattle.std.proofs.lemmas.List.{map-append, take_more}
use Rattle.std.proofs.lemmas.Option.{get_or_from_slice_get}
use Rattle.ga_pairs.specs.declared.view.Pair.{Pair as Claim}
use Rattle.ga_pool.specs.Steps.Filling.{claim_of, numbers_at}
use Rattle.ga_tallies.specs.declared.pairs.Pair.{Pair}
use Rattle.ga_pool.proofs.putting.claim_pairs.Goals as goal

pub claim-requires-clause-numbers : goal.claim-requires-clause-numbers
claim-requires-clause-numbers c =
    let numbers = numbers_at c.args.keys.now.numbers c.args.worker in
    let names = numbers_at c.args.visitors.now.numbers c.args.worker in
    let k = get_or_from_slice_get numbers _ c.of-key.result 0 c.of-key.ensures in
    let v = get_or_from_slice_get names _ c.of-visitor.result 0 c.of-visitor.ensures in (
      omega (arith, k, (c.requires.pairs c.loop-pair.pair-index record { key = 0; visitor = 0 } c.loop-pair-test.true).key_below, c.requires.keys),
      omega (arith, v, (c.requires.pairs c.loop-pair.pair-index record { key = 0; visitor = 0 } c.loop-pair-test.true).visitor_below, c.requires.visitors),
    )

pub loop-pair-preserved : goal.loop-pair-preserved
loop-pair-preserved c =
    let numbers = numbers_at c.args.keys.now.numbers c.args.worker in
    let names = numbers_at c.args.visitors.now.numbers c.args.worker in
    let before = c.loop-pair.invariant in
    let k = get_or_from_slice_get numbers _ c.of-key.result 0 c.of-key.ensures in
    let v = get_or_from_slice_get names _ c.of-visitor.result 0 c.of-visitor.ensures in
    let zero : Pair = record { key = 0; visitor = 0 } in
    let pair : Pair = get_or c.args.pairs.now c.loop-pair.pair-index zero in
    let of : Pair → Claim = claim_of numbers names in
    let claimed : record { key = c.of-key.result; visitor = c.of-visitor.result } ≡ of pair = λ i. record { key = sym k i; visitor = sym v i } in
    record {
      table = c.claim.ensures.table ∙ before.table;
      share = c.claim.ensures.share ∙ before.share;
      allowance = omega (arith, c.claim.ensures.allowance, before.allowance);
      asked =
          c.claim.ensures.asked ∙ (λ i. before.asked i ++ claimed i ∷ [])
          ∙ append_assoc c.args.seat.now.claims.asked (map of (take c.loop-pair.pair-index c.args.pairs.now)) (of pair ∷ [])
          ∙ ap (λ (l : List Claim). c.args.seat.now.claims.asked ++ l) (sym (ap (map of) (take_more c.args.pairs.now c.loop-pair.pair-index zero c.loop-pair-test.true) ∙ map-append of (take c.loop-pair.pair-index c.args.pairs.now) (pair ∷ [])));
    }
