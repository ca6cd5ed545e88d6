use Rattle.std.proofs.Common.{rules, ap, arith}
use Rattle.ga_pairs.specs.Pairs.{SeatSeen}
use Rattle.ga_pairs.proofs.Steps.{split-allowed}
use Rattle.ga_pairs.proofs.set.PairSet.split_by.Goals as goal

pub split_seat-seat-requires : goal.split_seat-seat-requires
split_seat-seat-requires g c =
    let share = ap (λ (s : SeatSeen). s.claims.share) c.seat.view_is in
    let allowance = ap (λ (s : SeatSeen). s.claims.allowance) c.seat.view_is in
    let more = c.requires.some in
    let less = c.requires.share in
    let within = c.requires.allowance in
    let named = c.requires.named in (
      search rules,
      omega (arith, c.self.invariant.0, c.self.invariant.3),
      split-allowed c.self.inside.table.shared.key _ g.C.Cut.share g.C.Cut.allowance c.seat.inside.seat.me.0 c.seat.invariant.1 (omega arith) (omega arith) (omega arith),
    )
