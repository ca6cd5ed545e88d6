use Rattle.std.proofs.Common.{rules, ap, sym, ◌∙◌, arith}
use Rattle.ga_draws.specs.Draws.{DrawsSeen, SeatSeen}
use Rattle.ga_draws.proofs.Steps.{draw-allowed}
use Rattle.ga_draws.proofs.draws.Draws.draw_by.Goals as goal

pub fetch_add-requires : goal.fetch_add-requires
fetch_add-requires g c =
    let shares = ap (λ (d : DrawsSeen). d.shares) c.self.view_is in
    let allowance = ap (λ (s : SeatSeen). s.view.allowance) c.seat.view_is in
    let least = c.requires.allowance in (
      search rules,
      search rules,
      draw-allowed c.self.inside.table.shared.key g.S.Witness.number _ _ c.seat.inside.seat.me (c.requires.named ∙ sym shares) c.self.invariant.1 (omega arith),
    )
