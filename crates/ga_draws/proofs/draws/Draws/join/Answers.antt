use Rattle.std.proofs.Common.{rules}
use Rattle.ga_draws.proofs.Steps.{join-allowed}
use Rattle.ga_draws.proofs.draws.Draws.join.Goals as goal

pub join_seat-requires : goal.join_seat-requires
join_seat-requires c = (
  search rules,
  search rules,
  search rules,
  search rules,
  join-allowed c.self.inside.table.shared.key _ _ c.seat.inside.seat.me.0 c.other.inside.seat.me.0,
)
