use Rattle.std.proofs.Common.{◌≡◌, ℕ, ◌+◌, ◌<◌, ◌++◌, get_or, length}
use Rattle.std.specs.List.{All, sum_by}
use Rattle.std.specs.Vec.Iter.{into_iter_items}
use Rattle.ga_counts.specs.Counts.{blank}
use Rattle.ga_pairs.specs.Pairs.{given}
use Rattle.ga_pool.specs.Steps.Filled.{IsSeated}
use Rattle.ga_pool.specs.Steps.Filling.{weight_of_rows}
use Rattle.ga_pool.specs.declared.filling.FillTask.{FillTask}
use Rattle.ga_pool.proofs.filling.fill_tasks.Given as goal

abbrev pub invariant-loop-rows : goal.invariant-loop-rows
invariant-loop-rows l = record {
  worker : l.worker ≡ length l.yielded;
  many : length l.loads.items ≡ length l.yielded;
  count_table : l.count_seat.table ≡ l.counts.table;
  count_view : l.count_seat.view ≡ blank l.counts.opening.words l.counts.opening.maxima (length (into_iter_items l.rows-iterator) + 1) (sum_by weight_of_rows (into_iter_items l.rows-iterator));
  pair_table : l.pair_seat.table ≡ l.pairs.table;
  pair_view : l.pair_seat.claims ≡ given (length (into_iter_items l.rows-iterator) + 1) (sum_by (λ one. length one.pairs.items) (into_iter_items l.rows-iterator));
  rows : (i : ℕ) (d : FillTask) → i < length l.loads.items → ((get_or l.loads.items i d).worker ≡ i) × ((get_or l.loads.items i d).rows ≡ get_or l.yielded i (get_or l.loads.items i d).rows);
  seats : All (IsSeated l.counts l.pairs) l.loads.items;
  rest : l.yielded ++ into_iter_items l.rows-iterator ≡ l.fn.rows.items;
}
