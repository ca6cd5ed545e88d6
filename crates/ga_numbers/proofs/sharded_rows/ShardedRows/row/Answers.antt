use Rattle.std.proofs.Common.{arith}
use Rattle.ga_numbers.proofs.Keeping.{in-shard, local-within, shard-within, stands-there}
use Rattle.ga_numbers.proofs.sharded_rows.ShardedRows.row.Goals as goal

pub index-requires : goal.index-requires
index-requires c =
    let inside = c.self.inside in
    let place = c.index-place.result.now in
    omega (arith, inside.shards.ok, shard-within inside.shards.items place.shard place.local (local-within inside.shards.items _ inside.places.items c.args.self.now c.args.number place c.self.invariant.named c.self.view_is c.requires c.index-place.ensures))

pub item-requires-after_bounds : goal.item-requires-after_bounds
item-requires-after_bounds c κs =
    let inside = c.self.inside in
    in-shard inside.shards.items _ inside.places.items c.args.self.now c.args.number c.index-place.result.now c.self.invariant.named c.self.view_is c.requires c.index-place.ensures c.index.result.now c.index.ensures

pub returns : goal.returns
returns c =
    let inside = c.self.inside in
    stands-there inside.shards.items _ inside.places.items c.args.self.now c.args.number c.index-place.result.now c.self.invariant.named c.self.view_is c.requires c.index-place.ensures c.index.result.now c.index.ensures
    c.item.result.now c.item.ensures
