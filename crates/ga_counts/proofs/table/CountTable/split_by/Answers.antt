use Rattle.std.proofs.Common.{rules, ap, arith}
use Rattle.ga_counts.specs.Counts.{SeatSeen, tally_at}
use Rattle.ga_counts.proofs.Steps.{split-allowed}
use Rattle.ga_counts.proofs.table.CountTable.split_by.Goals as goal

pub split_seat-seat-requires : goal.split_seat-seat-requires
split_seat-seat-requires g c =
    let share = ap (λ (s : SeatSeen). s.view.share) c.seat.view_is in
    let allowance = ap (λ (s : SeatSeen). s.view.allowance) c.seat.view_is in
    let some = c.requires.some in
    let less = c.requires.share in
    let named = c.requires.named in (
      search rules,
      omega (arith, c.self.invariant.0),
      split-allowed c.self.inside.table.shared.key _ g.C.Cut.share g.C.Cut.allowance c.seat.inside.seat.me.0 c.seat.invariant.1 (omega arith) (omega arith)
          (λ word. let tally = ap (λ (s : SeatSeen). tally_at word s.view) c.seat.view_is in let room = c.requires.allowance word in omega arith),
    )
