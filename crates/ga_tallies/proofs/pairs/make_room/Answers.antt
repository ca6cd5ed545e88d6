use Rattle.std.proofs.Common.{subst, sym}
use Rattle.ga_tallies.specs.Steps.Adding.{HoldTheSame}
use Rattle.ga_tallies.proofs.pairs.make_room.Goals as goal

pub returns-in_err-reserve : goal.returns-in_err-reserve
returns-in_err-reserve c = subst (HoldTheSame c.args.row.now.items) (sym c.reserve.ensures.items) c.thin_out.ensures

pub returns : goal.returns
returns c = subst (HoldTheSame c.args.row.now.items) (sym c.reserve.ensures.items) c.thin_out.ensures
