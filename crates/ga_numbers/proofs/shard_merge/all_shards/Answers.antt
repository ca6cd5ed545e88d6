use Rattle.std.proofs.Common.{◌∷◌, ◌++◌, ◌∙◌, [], Ok, List, map, ap, sym}
use Rattle.std.proofs.lemmas.List.{map_push}
use Rattle.ga_numbers.specs.declared.shard_merge.MergedShard.{MergedShard}
use Rattle.ga_numbers.proofs.ShardMerges.{flat-more}
use Rattle.ga_numbers.proofs.shard_merge.all_shards.Goals as goal

pub loop-result-preserved : goal.loop-result-preserved
loop-result-preserved c =
    let so_far = c.loop-result.invariant in
    let part = c.in_ok-result.field-0 in (
      so_far.0 ++ part ∷ [],
      ap (λ ys. ys ++ c.in-Some.result ∷ []) so_far.1 ∙ ap (λ r. map Ok so_far.0 ++ r ∷ []) c.in_ok-result.was ∙ sym (map_push Ok so_far.0 part),
      c.in_ok-append.ensures.items ∙ ap (λ (all : List MergedShard). all ++ part.items) so_far.2 ∙ sym (flat-more (λ p. p.items) so_far.0 part),
    )
