use Rattle.std.proofs.Common.{Option, IfSome}
use Rattle.std.specs.List.{Contains}
use Rattle.ga_tallies.specs.Tallies.{lists_in, pair_of, pairs_in}
use Rattle.ga_tallies.specs.declared.pairs.Pair.{Pair}
use Rattle.ga_tallies.proofs.MadePlaces.{still-all}
use Rattle.ga_tallies.proofs.PairLists.{put-there}
use Rattle.ga_tallies.proofs.pairs.PairList.put.Goals as goal

pub invariant_of-self-2 : goal.invariant_of-self-2
invariant_of-self-2 c =
    let old = pairs_in (lists_in c.self.inside.rows.items) in
    let new = pairs_in (lists_in c.put_pair.new.rows.items) in
    let there : Option Pair → Type 0 = λ place. IfSome place (λ pair. Contains old (pair_of pair)) in
    let made = still-all there tt c.in_ok-make_places.ensures c.self.invariant in
    put-there old new c.args.pair c.make_places.new.places.items c.put_at.new.places.items c.place_of.result c.in_ok-put_pair.ensures.added c.put_at.ensures made
