use Rattle.std.proofs.Common.{rules, ap, sym, ◌∙◌}
use Rattle.ga_draws.specs.Draws.{DrawsSeen}
use Rattle.ga_draws.proofs.Steps.{look-allowed}
use Rattle.ga_draws.proofs.draws.Draws.look_by.Goals as goal

pub load-requires : goal.load-requires
load-requires g c = (
  search rules,
  search rules,
  look-allowed c.self.inside.table.shared.key g.S.Witness.number _ _ c.seat.inside.seat.me (c.requires.named ∙ sym (ap (λ (d : DrawsSeen). d.shares) c.self.view_is)),
)
