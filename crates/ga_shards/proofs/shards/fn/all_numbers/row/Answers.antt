use Rattle.std.proofs.Common.{◌≡◌, true, List, length, sym, subst}
use Rattle.std.specs.List.{All, list_any}
use Rattle.ga_shards.specs.Steps.{around, shard_at}
use Rattle.ga_shards.proofs.Shifting.{all-at}
use Rattle.ga_shards.proofs.shards.fn.all_numbers.row.Goals as goal

pub numbers_of-requires-clause-known : goal.numbers_of-requires-clause-known
numbers_of-requires-clause-known g c κs within =
    let parts = c.captures.parts.now in
    let lists = c.captures.dictionaries.now in
    subst (λ (items : List _). All (λ item. list_any (g.T.PartialEq.eq item) (around (shard_at g.T.Hash.hash_input (length parts)) parts item) ≡ true) items) (sym c.items.ensures.value)
    (all-at (λ item. list_any (g.T.PartialEq.eq item) (around (shard_at g.T.Hash.hash_input (length parts)) parts item) ≡ true) lists c.args.at c.index-at.result c.requires.0 c.requires.1.known)
