use Rattle.std.proofs.Common.{List, ℕ, map, sym, subst, arith}
use Rattle.std.specs.List.{AllZip, flat_map}
use Rattle.ga_numbers.specs.declared.shard_merge.MergedShard.{MergedShard}
use Rattle.ga_numbers.specs.declared.shard_merge.ShardMerge.{ShardMerge}
use Rattle.ga_numbers.specs.Steps.Kept.{MergesShards}
use Rattle.ga_numbers.specs.Steps.ShardMerges.{MergesShard}
use Rattle.ga_numbers.proofs.MergedShards.{both-ok, have-merged}
use Rattle.ga_numbers.proofs.ShardMerges.{zip-flat, zip-jobs}
use Rattle.ga_numbers.proofs.shard_merge.merge_shards.Goals as goal

pub returns : goal.returns
returns g c =
    let prefixes : List (List ℕ) = map (λ l. l.items) c.args.prefixes.now in
    let all : List MergedShard = c.in_ok-all_shards.field-0.items in
    let parts = c.in_ok-all_shards.ensures.0 in
    let groups = c.in_ok-groups.groups.items in
    let merges : List ShardMerge = c.in_ok-shard_merges.field-0.items in
    let results = c.in_ok-map_vec.field-0 in
    let by_group = zip-jobs (λ group part. AllZip (MergesShard prefixes) group.items part.items) groups results.items parts c.in_ok-all_shards.ensures.1
    (omega (arith, c.in_ok-map_vec.ensures.len, results.ok.0, c.in_ok-groups.groups.ok.0))
    (λ i r within. let job = (c.in_ok-map_vec.ensures.each i r within).1 in (job.job, job.job_is, job.call.met)) in
    let flat = zip-flat (MergesShard prefixes) (λ group. group.items) (λ part. part.items) groups parts by_group in
    let whole : List MergedShard = flat_map (λ part. part.items) parts in
    let zipped : AllZip (MergesShard prefixes) merges all =
    subst (AllZip (MergesShard prefixes) merges) (sym c.in_ok-all_shards.ensures.2) (subst (λ (ms : List ShardMerge). AllZip (MergesShard prefixes) ms whole) c.in_ok-groups.ensures flat) in
    let others : List (List (List _)) = map (λ o. o.items) c.args.others.items in
    let merged = have-merged prefixes (λ m. m.known) (λ m. m.more.items) (λ g. g.known) (λ g. map (λ l. l.items) g.local_maps.items) merges all zipped c.args.shards.items others
    c.in_ok-shard_merges.ensures.known (λ s within. c.in_ok-shard_merges.ensures.more s (omega (arith, within, c.args.shards.ok.0))) in
    both-ok c.shards_and_maps.result _ _ _ (λ v is local_maps. subst (λ l. MergesShards prefixes c.args.shards.items others l (map (λ shard. map (λ l. l.items) shard.items) v.1.items)) (sym is)
    (subst (λ l. MergesShards prefixes c.args.shards.items others (map (λ g. g.known) all) l) (sym local_maps) merged)) c.shards_and_maps.ensures.shards c.shards_and_maps.ensures.local_maps
