use Rattle.std.proofs.Common.{ℕ, ◌+◌, ◌≤◌, List, [], ◌∷◌, get_or, set, ap, ◌∙◌, arith}
use Rattle.ga_counts.specs.Counts.{SeatSeen, tally_at}
use Rattle.ga_counting_tests.proofs.counts.count.Goals as goal

-- an addition raises a tally by no more
most : (xs : List ℕ) → get_or (set xs 0 (get_or xs 0 0 + 1)) 0 0 ≤ get_or xs 0 0 + 1
most [] = omega arith
most (x ∷ xs) = omega arith

pub loop-preserved : goal.loop-preserved
loop-preserved c =
    let i = c.loop.invariant in
    record {
      table = ap (λ (s : SeatSeen). s.table) c.add.ensures ∙ i.table;
      share = ap (λ (s : SeatSeen). s.view.share) c.add.ensures ∙ i.share;
      allowance = ap (λ (s : SeatSeen). s.view.allowance) c.add.ensures ∙ i.allowance;
      tally =
          let is = ap (λ (s : SeatSeen). tally_at 0 s.view) c.add.ensures in
          let step = most c.loop.seat.view.tallies in
          let was = i.tally in omega arith;
    }
