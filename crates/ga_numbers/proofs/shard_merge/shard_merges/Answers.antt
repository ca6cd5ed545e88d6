use Rattle.std.proofs.Common.{◌≡◌, ◌∷◌, ◌++◌, ◌∙◌, [], List, Vec, Global, length, get_or, map, ap, sym, subst, arith}
use Rattle.std.specs.List.{All}
use Rattle.std.specs.Vec.Iter.{into_iter_items}
use Rattle.std.proofs.lemmas.List.{length-map, map_push}
use Rattle.std.proofs.lemmas.List.Elements.{All-head, All-tail}
use Rattle.ga_numbers.specs.Steps.Kept.{shards_at}
use Rattle.ga_numbers.specs.declared.shard_merge.ShardMerge.{ShardMerge}
use Rattle.ga_numbers.specs.declared.shard_row.ShardRow.{ShardRow}
use Rattle.ga_numbers.proofs.ShardMerges.{joined-at}
use Rattle.ga_numbers.proofs.shard_merge.shard_merges.Goals as goal

pub loop-other-preserved : goal.loop-other-preserved
loop-other-preserved c =
    let so_far = c.loop-other.invariant in
    let other = c.in-Some.other in
    let rest = into_iter_items c.next.new.self in
    let Long : Vec (List ShardRow) Global → Type 0 = λ o. length o.items ≡ length c.args.shards.items in
    let left : All Long (other ∷ rest) = subst (All Long) c.in-Some.ensures.steps.0 so_far.long in
    let tall : length other.items ≡ length c.args.shards.items = All-head Long other rest left in
    let merges : List ShardMerge = c.loop-other.merges.items in
    let wide : length merges ≡ length c.args.shards.items = sym (length-map merges (λ m. m.known)) ∙ ap length so_far.known in
    let before = c.loop-other.yielded in
    let items : Vec (List ShardRow) Global → List (List ShardRow) = λ o. o.items in
    record {
      known = c.in_ok-merges-2.ensures.known ∙ so_far.known;
      more = λ s within.
          ap (λ (l : List (List (List ShardRow))). get_or l s []) c.in_ok-merges-2.ensures.more
          ∙ joined-at (map (λ (m : ShardMerge). m.more.items) merges) other.items s (omega (arith, within, wide, length-map merges (λ (m : ShardMerge). m.more.items))) (omega (arith, within, tall))
          ∙ (λ i. so_far.more s within i ++ get_or other.items s [] ∷ [])
          ∙ sym (ap (shards_at s) (map_push items before other) ∙ map_push (λ (l : List (List ShardRow)). get_or l s []) (map items before) other.items);
      long = All-tail Long other rest left;
    }
