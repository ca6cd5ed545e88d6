use Rattle.std.proofs.Common.{◌≡◌, ℕ, ◌<◌, ◌++◌, length, get_or}
use Rattle.std.specs.Vec.Iter.{into_iter_items}
use Rattle.ga_pool.specs.Steps.CountedRows.{IsRowOf}
use Rattle.ga_summary.specs.SummaryParts.{row_of_part}
use Rattle.ga_summary.specs.declared.summary_parts.PartRow.{PartRow}
use Rattle.ga_pool.proofs.counted_rows.rows_of.Given as goal

abbrev pub invariant-loop-its_names : goal.invariant-loop-its_names
invariant-loop-its_names l = record {
  number : l.number ≡ length l.yielded;
  many : length l.rows.items ≡ length l.yielded;
  each : (k : ℕ) (d : PartRow) → k < length l.rows.items → IsRowOf l.counted k (row_of_part (get_or l.rows.items k d));
  rest : l.yielded ++ into_iter_items l.its_names-iterator ≡ l.fn.names.items;
}
