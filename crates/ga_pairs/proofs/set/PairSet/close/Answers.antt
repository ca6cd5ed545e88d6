use Rattle.std.proofs.Common.{ap, sym, subst, ◌∙◌}
use Rattle.std.specs.Slots.{slots_items}
use Rattle.ga_pairs.specs.Pairs.{SetSeen, SeatSeen, IsClosed}
use Rattle.ga_pairs.proofs.Closes.{close-gives}
use Rattle.ga_pairs.proofs.set.PairSet.close.Goals as goal

pub returns-clause-pairs : goal.returns-clause-pairs
returns-clause-pairs c =
    let shares = ap (λ (s : SetSeen). s.opening.shares) c.self.view_is in
    let share = ap (λ (s : SeatSeen). s.claims.share) c.seat.view_is in
    subst (λ (s : SeatSeen). IsClosed s.claims (slots_items c.close_with-closed.result.words)) c.seat.view_is
    (close-gives c.self.inside.table.shared.key _ _ _ c.seat.inside.seat.me.0 (share ∙ (c.requires.whole ∙ sym shares)) c.close_with-closed.ensures.values.2)
