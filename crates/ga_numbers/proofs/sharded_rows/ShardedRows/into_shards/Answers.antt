use Rattle.std.proofs.Common.{◌∙◌, arith}
use Rattle.ga_numbers.proofs.sharded_rows.ShardedRows.into_shards.Goals as goal

pub returns : goal.returns
returns c =
    let places = c.self.inside.places.items in
    let kept = c.open.ensures.kept places c.self.invariant in
    record {
      whole = omega (arith, c.in_ok-open.ensures.many, c.open.new.shards.ok.0);
      sharded = kept.sharded;
      stand = kept.named.rows;
      are = c.open.ensures.same places c.self.invariant ∙ c.self.view_is;
    }
