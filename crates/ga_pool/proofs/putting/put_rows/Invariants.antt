use Rattle.std.proofs.Common.{◌≡◌, take}
use Rattle.ga_pool.specs.Steps.Filling.{Gains, added_at, numbers_at, raised_to}
use Rattle.ga_pool.proofs.putting.put_rows.Given as goal

abbrev pub invariant-loop-local : goal.invariant-loop-local
invariant-loop-local l = record {
  table : l.seat.table ≡ l.counts.table;
  gains : Gains l.initial.seat.view l.seat.view (λ word. added_at word (numbers_at l.keys.numbers l.worker) (take l.local l.rows))
      (λ place. raised_to place (numbers_at l.keys.numbers l.worker) (take l.local l.rows));
}
