use Rattle.std.proofs.Common.{◌≡◌, Some, map, take}
use Rattle.std.specs.Prelude.{slice_get}
use Rattle.std.specs.List.{All}
use Rattle.ga_summary.specs.SummaryParts.{rows_in}
use Rattle.ga_tallies.specs.Tallies.{lists_in, pairs_in}
use Rattle.ga_totals.specs.Steps.KeyRows.{IsRowOf, NumberedKey}
use Rattle.ga_totals.proofs.part_rows.rows_of.Given as goal

abbrev pub invariant-loop-entry : goal.invariant-loop-entry
invariant-loop-entry l = record {
  keys : map (λ row. row.key) (rows_in l.rows.items) ≡ map (λ n. n.key) (take l.entry-index l.entry-items);
  each : All (λ row. (n : NumberedKey) × (slice_get l.keys n.number ≡ Some n.key) × IsRowOf n l.sums l.visitors (pairs_in (lists_in l.visits)) row) (rows_in l.rows.items);
}
