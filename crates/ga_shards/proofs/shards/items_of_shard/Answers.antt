use Rattle.std.proofs.Common.{List, length, arith, ap}
use Rattle.std.proofs.lemmas.List.Sums.{sum_by_more_le}
use Rattle.ga_shards.proofs.shards.items_of_shard.Goals as goal

pub note_those-requires-clause-fits : goal.note_those-requires-clause-fits
note_those-requires-clause-fits g c κs within =
    let items = c.args.dictionaries.now in
    let room = sum_by_more_le (λ (l : List _). length l) items c.loop-dictionary.dictionary-index c.dictionary-item.result c.loop-dictionary-test.true in
    omega (arith, room, c.requires.fits, c.loop-dictionary.invariant.len, ap length c.items.ensures.value, ap length c.dictionary-item.is)
