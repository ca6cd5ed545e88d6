use Rattle.std.proofs.Common.{rules, arith}
use Rattle.ga_pairs.proofs.Steps.{join-allowed}
use Rattle.ga_pairs.proofs.set.PairSet.join.Goals as goal

pub join_seat-requires : goal.join_seat-requires
join_seat-requires c = (
  search rules,
  search rules,
  search rules,
  omega (arith, c.self.invariant.0, c.self.invariant.3),
  join-allowed c.self.inside.table.shared.key _ _ c.seat.inside.seat.me.0 c.other.inside.seat.me.0,
)
