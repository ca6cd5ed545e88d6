use Rattle.std.proofs.Common.{rules, ap, arith}
use Rattle.ga_draws.specs.Draws.{SeatSeen}
use Rattle.ga_draws.proofs.Steps.{split-allowed}
use Rattle.ga_draws.proofs.draws.Draws.split_by.Goals as goal

pub split_seat-seat-requires : goal.split_seat-seat-requires
split_seat-seat-requires g c =
    let share = ap (λ (s : SeatSeen). s.view.share) c.seat.view_is in
    let allowance = ap (λ (s : SeatSeen). s.view.allowance) c.seat.view_is in
    let some = c.requires.some in
    let less = c.requires.share in
    let within = c.requires.allowance in
    let named = c.requires.named in (
      search rules,
      search rules,
      split-allowed c.self.inside.table.shared.key _ g.C.Cut.share g.C.Cut.allowance c.seat.inside.seat.me.0 (omega arith) (omega arith) (omega arith),
    )
