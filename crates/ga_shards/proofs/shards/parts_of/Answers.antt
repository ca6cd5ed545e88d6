use Rattle.std.proofs.Common.{◌≡◌, [], length, arith}
use Rattle.ga_shards.specs.Steps.{all_noted, all_of, shard_at, those_of}
use Rattle.ga_shards.proofs.Gathering.{each-of}
use Rattle.ga_shards.proofs.shards.parts_of.Goals as goal

pub returns-clause-each : goal.returns-clause-each
returns-clause-each g c =
    let all = c.in_ok-map_indices.field-0 in
    let long : length all.items ≡ c.args.shards = omega (arith, c.in_ok-map_indices.ensures.len, all.ok) in
    each-of (λ v. v.items) (λ s known. known ≡ all_noted g.T.PartialEq.eq [] (those_of (shard_at g.T.Hash.hash_input c.args.shards) s (all_of c.args.dictionaries.now))) c.args.shards
    all.items [] long (λ i r lt. (c.in_ok-map_indices.ensures.each i r lt).1.met) c.collect_all.result c.collect_all.ensures
