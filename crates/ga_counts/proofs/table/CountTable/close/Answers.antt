use Rattle.std.proofs.Common.{ap, sym, subst, ◌∙◌, take, drop}
use Rattle.std.specs.Slots.{slots_items}
use Rattle.ga_counts.specs.Counts.{IsRow, TableSeen, SeatSeen}
use Rattle.ga_counts.proofs.Closes.{close-gives}
use Rattle.ga_counts.proofs.table.CountTable.close.Goals as goal

pub returns-clause-sums : goal.returns-clause-sums
returns-clause-sums c =
    let shares = ap (λ (t : TableSeen). t.opening.shares) c.self.view_is in
    let share = ap (λ (s : SeatSeen). s.view.share) c.seat.view_is in
    (close-gives c.self.inside.table.shared.key c.self.inside.words c.self.inside.maxima _ _ _ c.seat.inside.seat.me.0 c.self.invariant.2 c.self.invariant.3 c.self.invariant.4
    (share ∙ (c.requires.whole ∙ sym shares)) c.close_with-closed.ensures.values.2).0
    ∙ ap (λ (s : SeatSeen). s.view.tallies) c.seat.view_is

pub returns-clause-maxima : goal.returns-clause-maxima
returns-clause-maxima c =
    let shares = ap (λ (t : TableSeen). t.opening.shares) c.self.view_is in
    let share = ap (λ (s : SeatSeen). s.view.share) c.seat.view_is in
    (close-gives c.self.inside.table.shared.key c.self.inside.words c.self.inside.maxima _ _ _ c.seat.inside.seat.me.0 c.self.invariant.2 c.self.invariant.3 c.self.invariant.4
    (share ∙ (c.requires.whole ∙ sym shares)) c.close_with-closed.ensures.values.2).1
    ∙ ap (λ (s : SeatSeen). s.view.maxima) c.seat.view_is

pub returns-clause-row : goal.returns-clause-row
returns-clause-row c =
    let shares = ap (λ (t : TableSeen). t.opening.shares) c.self.view_is in
    let share = ap (λ (s : SeatSeen). s.view.share) c.seat.view_is in
    subst (λ (t : TableSeen). IsRow t.opening (take c.self.inside.words (slots_items c.close_with-closed.result.words)) (take c.self.inside.maxima (drop c.self.inside.words (slots_items c.close_with-closed.result.words))))
    c.self.view_is
    (close-gives c.self.inside.table.shared.key c.self.inside.words c.self.inside.maxima _ _ _ c.seat.inside.seat.me.0 c.self.invariant.2 c.self.invariant.3 c.self.invariant.4
    (share ∙ (c.requires.whole ∙ sym shares)) c.close_with-closed.ensures.values.2).2
