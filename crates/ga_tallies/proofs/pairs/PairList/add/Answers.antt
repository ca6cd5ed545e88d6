use Rattle.ga_tallies.specs.Tallies.{pair_of}
use Rattle.ga_tallies.proofs.PairLists.{already-there}
use Rattle.ga_tallies.proofs.pairs.PairList.add.Goals as goal

pub returns-then-is_recent : goal.returns-then-is_recent
returns-then-is_recent c = already-there c.args.self.now (pair_of c.args.pair) (c.is_recent.ensures c.if-is_recent.true)
