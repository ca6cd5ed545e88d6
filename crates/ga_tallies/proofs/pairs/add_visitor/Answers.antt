use Rattle.std.proofs.lemmas.Result.{on_ok_weaker}
use Rattle.ga_tallies.proofs.PairLists.{added-after}
use Rattle.ga_tallies.proofs.pairs.add_visitor.Goals as goal

pub returns-in_err-make_room-clause-kept : goal.returns-in_err-make_room-clause-kept
returns-in_err-make_room-clause-kept c = c.make_room.ensures.kept

pub returns-clause-kept : goal.returns-clause-kept
returns-clause-kept c = λ v at. c.push_visitor.ensures.kept v (c.make_room.ensures.kept v at)

pub returns-clause-added : goal.returns-clause-added
returns-clause-added c =
    on_ok_weaker c.push_visitor.result
    (added-after c.args.row.now.items c.make_room.new.row.items c.push_visitor.new.row.items c.args.visitor c.make_room.ensures) c.push_visitor.ensures.added
