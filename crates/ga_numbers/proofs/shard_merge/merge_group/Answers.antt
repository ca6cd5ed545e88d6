use Rattle.std.proofs.Common.{◌∷◌, ◌++◌, [], List, ℕ, map, subst, sym}
use Rattle.std.specs.List.{AllZip}
use Rattle.ga_numbers.specs.Steps.ShardMerges.{MergesShard}
use Rattle.ga_numbers.proofs.ShardMerges.{zip-more}
use Rattle.ga_numbers.proofs.shard_merge.merge_group.Goals as goal

pub loop-merge-preserved : goal.loop-merge-preserved
loop-merge-preserved c =
    let prefixes : List (List ℕ) = map (λ v. v.items) c.args.prefixes.now in
    subst (AllZip (MergesShard prefixes) (c.loop-merge.yielded ++ c.in-Some.merge ∷ [])) (sym c.in_ok-push.ensures.items)
    (zip-more (MergesShard prefixes) c.loop-merge.yielded c.loop-merge.all.items c.in-Some.merge c.in_ok-merge_shard.field-0 c.loop-merge.invariant c.in_ok-merge_shard.ensures)
