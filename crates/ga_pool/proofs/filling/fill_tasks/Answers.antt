use Rattle.std.proofs.Common.{◌≡◌, ℕ, ◌+◌, ◌-◌, ◌<◌, ◌∷◌, [], ◌++◌, List, length, get_or, sym, ap, ◌∙◌, subst, arith, append_assoc, length-append}
use Rattle.std.specs.List.{All, sum_by}
use Rattle.std.specs.Vec.Iter.{into_iter_items}
use Rattle.std.proofs.lemmas.List.Elements.{All-push}
use Rattle.std.proofs.lemmas.List.Sums.{sum_by-cons}
use Rattle.ga_counts.specs.Counts.{SeatSeen, blank, given, left}
use Rattle.ga_counts.specs.declared.view.CountView.{CountView}
use Rattle.ga_pairs.specs.Pairs.{SeatSeen as PairSeatSeen, given as claims_given, left as claims_left}
use Rattle.ga_pairs.specs.declared.view.Claims.{Claims}
use Rattle.ga_pool.specs.Steps.Filled.{IsSeated}
use Rattle.ga_pool.specs.Steps.Filling.{weight_of_rows}
use Rattle.ga_pool.specs.declared.filling.FillTask.{FillTask}
use Rattle.ga_pool.specs.declared.table_inputs.TableRows.{TableRows}
use Rattle.ga_pool.proofs.FillTables.{at-push, before-push, given-blank, last-push}
use Rattle.ga_pool.proofs.filling.fill_tasks.Goals as goal

left-blank : (words places : ℕ) (rows : TableRows) (more : List TableRows) → left (blank words places (length (rows ∷ more) + 1) (sum_by weight_of_rows (rows ∷ more))) 1 (weight_of_rows rows)
    ≡ blank words places (length more + 1) (sum_by weight_of_rows more)
left-blank words places rows more =
    let share : length (rows ∷ more) + 1 - 1 ≡ length more + 1 = omega arith in
    let rest : sum_by weight_of_rows (rows ∷ more) - weight_of_rows rows ≡ sum_by weight_of_rows more = omega (arith, sum_by-cons weight_of_rows rows more) in
    λ i. blank words places (share i) (rest i)

left-given : (rows : TableRows) (more : List TableRows) → claims_left (claims_given (length (rows ∷ more) + 1) (sum_by (λ (one : TableRows). length one.pairs.items) (rows ∷ more))) 1 (length rows.pairs.items)
    ≡ claims_given (length more + 1) (sum_by (λ (one : TableRows). length one.pairs.items) more)
left-given rows more =
    let share : length (rows ∷ more) + 1 - 1 ≡ length more + 1 = omega arith in
    let rest : sum_by (λ (one : TableRows). length one.pairs.items) (rows ∷ more) - length rows.pairs.items ≡ sum_by (λ (one : TableRows). length one.pairs.items) more = omega (arith, sum_by-cons (λ (one : TableRows). length one.pairs.items) rows more) in
    λ i. claims_given (share i) (rest i)

pub loop-rows-preserved : goal.loop-rows-preserved
loop-rows-preserved c =
    let before = c.loop-rows.invariant in
    let rows = c.in-Some.rows in
    let more = into_iter_items c.next.new.self in
    let load = c.fill_task-load.result in
    let made = c.fill_task-load.ensures in
    let pushed = c.in_ok-push.ensures.items in
    let words = c.args.counts.now.opening.words in
    let places = c.args.counts.now.opening.maxima in
    let steps : into_iter_items c.loop-rows.rows-iterator ≡ rows ∷ more = c.in-Some.ensures.steps.0 in
    let view : c.loop-rows.count_seat.view ≡ blank words places (length (rows ∷ more) + 1) (sum_by weight_of_rows (rows ∷ more)) =
    before.count_view ∙ ap (λ (l : List TableRows). blank words places (length l + 1) (sum_by weight_of_rows l)) steps in
    let claims : c.loop-rows.pair_seat.claims ≡ claims_given (length (rows ∷ more) + 1) (sum_by (λ (one : TableRows). length one.pairs.items) (rows ∷ more)) =
    before.pair_view ∙ ap (λ (l : List TableRows). claims_given (length l + 1) (sum_by (λ (one : TableRows). length one.pairs.items) l)) steps in
    let many = length-append c.loop-rows.yielded (rows ∷ []) in
    let seated : IsSeated c.args.counts.now c.args.pairs.now load = record {
      counts_table = ap (λ (s : SeatSeen). s.table) made.counts ∙ before.count_table;
      pairs_table = ap (λ (s : PairSeatSeen). s.table) made.pairs ∙ before.pair_table;
      counts_view =
          ap (λ (s : SeatSeen). s.view) made.counts ∙ ap (λ (v : CountView). given v 1 (weight_of_rows rows)) view ∙ given-blank words places (length (rows ∷ more) + 1) (sum_by weight_of_rows (rows ∷ more)) 1 (weight_of_rows rows)
          ∙ ap (λ (r : TableRows). blank words places 1 (weight_of_rows r)) (sym made.rows);
      pairs_view = ap (λ (s : PairSeatSeen). s.claims) made.pairs ∙ ap (λ (r : TableRows). claims_given 1 (length r.pairs.items)) (sym made.rows);
    } in
    record {
      worker = omega (arith, before.worker, many);
      many = omega (arith, ap length pushed, length-append c.loop-rows.loads.items (load ∷ []), before.many, many);
      count_table = ap (λ (s : SeatSeen). s.table) made.count_seat ∙ before.count_table;
      count_view = ap (λ (s : SeatSeen). s.view) made.count_seat ∙ ap (λ (v : CountView). left v 1 (weight_of_rows rows)) view ∙ left-blank words places rows more;
      pair_table = ap (λ (s : PairSeatSeen). s.table) made.pair_seat ∙ before.pair_table;
      pair_view = ap (λ (s : PairSeatSeen). s.claims) made.pair_seat ∙ ap (λ (v : Claims). claims_left v 1 (length rows.pairs.items)) claims ∙ left-given rows more;
      rows =
          subst (λ (loads : List FillTask). (i : ℕ) (d : FillTask) → i < length loads → ((get_or loads i d).worker ≡ i) × ((get_or loads i d).rows ≡ get_or (c.loop-rows.yielded ++ rows ∷ []) i (get_or loads i d).rows)) (sym pushed)
          (at-push (λ (i : ℕ) (l : FillTask). (l.worker ≡ i) × (l.rows ≡ get_or (c.loop-rows.yielded ++ rows ∷ []) i l.rows)) c.loop-rows.loads.items load
          (λ i d lt. let one = before.rows i d lt in (one.0, one.1 ∙ sym (before-push c.loop-rows.yielded rows _ i (omega (arith, lt, before.many)))))
          (made.worker ∙ omega (arith, before.worker, before.many), made.rows ∙ sym (ap (λ (n : ℕ). get_or (c.loop-rows.yielded ++ rows ∷ []) n load.rows) before.many ∙ last-push c.loop-rows.yielded rows load.rows)));
      seats = subst (All (IsSeated c.args.counts.now c.args.pairs.now)) (sym pushed) (All-push (IsSeated c.args.counts.now c.args.pairs.now) c.loop-rows.loads.items load before.seats seated);
      rest = append_assoc c.loop-rows.yielded (rows ∷ []) _ ∙ ap (λ (l : List TableRows). c.loop-rows.yielded ++ l) (sym steps) ∙ before.rest;
    }
