use Rattle.std.proofs.Common.{◌≡◌, [], length, map, arith}
use Rattle.ga_shards.specs.Steps.{number_of, shard_at}
use Rattle.ga_shards.proofs.Gathering.{rows-of}
use Rattle.ga_shards.proofs.shards.all_numbers.Goals as goal

pub returns : goal.returns
returns g c =
    let all = c.in_ok-map_indices.field-0 in
    let parts = c.args.parts.now in
    let long : length all.items ≡ length c.args.dictionaries.now = omega (arith, c.in_ok-map_indices.ensures.len, all.ok) in
    rows-of (λ v. v.items) (λ row. row.items) (λ items. map (number_of g.T.PartialEq.eq (shard_at g.T.Hash.hash_input (length parts)) parts) items) c.args.dictionaries.now [] all.items long
    (λ i r lt. (c.in_ok-map_indices.ensures.each i r lt).1.met) c.collect_all.result c.collect_all.ensures
