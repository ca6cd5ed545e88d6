use Rattle.std.proofs.Common.{rules, ap, arith}
use Rattle.ga_counts.specs.Counts.{TableSeen}
use Rattle.ga_counts.proofs.Steps.{raise-allowed}
use Rattle.ga_counts.proofs.table.CountTable.raise_by.Goals as goal

pub fetch_max-requires : goal.fetch_max-requires
fetch_max-requires g c =
    let maxima = ap (λ (t : TableSeen). t.opening.maxima) c.self.view_is in
    let inside = c.requires.place in
    let told = c.requires.told in (
      search rules,
      omega (arith, c.self.invariant.0, c.self.invariant.3),
      raise-allowed c.self.inside.table.shared.key _ _ _ g.P.Witness.number c.args.n c.seat.inside.seat.me (omega (arith, c.self.invariant.2)) (omega arith) c.seat.invariant.1,
    )
