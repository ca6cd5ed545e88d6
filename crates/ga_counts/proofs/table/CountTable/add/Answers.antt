use Rattle.std.proofs.Common.{rules, ap, arith}
use Rattle.ga_counts.specs.Counts.{TableSeen, SeatSeen, tally_at}
use Rattle.ga_counts.proofs.Steps.{add-allowed}
use Rattle.ga_counts.proofs.table.CountTable.add.Goals as goal

pub fetch_add-requires : goal.fetch_add-requires
fetch_add-requires c =
    let words = ap (λ (t : TableSeen). t.opening.words) c.self.view_is in
    let allowance = ap (λ (s : SeatSeen). s.view.allowance) c.seat.view_is in
    let tally = ap (λ (s : SeatSeen). tally_at c.args.word s.view) c.seat.view_is in
    let inside = c.requires.word in
    let fits = c.requires.allowance in (
      search rules,
      omega (arith, c.self.invariant.0, c.self.invariant.2),
      add-allowed c.self.inside.table.shared.key _ _ c.args.word c.args.n c.seat.inside.seat.me (omega arith) c.seat.invariant.1 (omega arith),
    )
