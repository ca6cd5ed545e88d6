use Rattle.std.proofs.Common.{◌≡◌, ℕ, ◌<◌, ◌++◌, List, length, get_or, ap, ◌∙◌, arith}
use Rattle.std.specs.List.{flat_map}
use Rattle.ga_counts.specs.Counts.{maximum_at, tally_at}
use Rattle.ga_pairs.specs.declared.view.Pair.{Pair as Claim}
use Rattle.ga_pairs.specs.declared.view.Claims.{Claims}
use Rattle.ga_pool.specs.Steps.Filling.{adds, claims_of, raises}
use Rattle.ga_pool.specs.declared.filling.TableSeats.{TableSeats}
use Rattle.ga_pool.specs.declared.table_inputs.TableRows.{TableRows}
use Rattle.ga_pool.proofs.FillTables.{blank-maximum, blank-tally, lists-each, max-each, sum-each}
use Rattle.ga_pool.proofs.FilledTables.{PutIs, put-is}
use Rattle.ga_pool.proofs.filling.fill.Given.{Over}
use Rattle.ga_pool.proofs.filling.fill.Goals as goal

-- what each worker put in
each-put : (g : Over) (c : goal.After-close-2 g) (i : ℕ) (p : TableSeats) (r : TableRows) → i < length c.args.rows.items
    → PutIs c.args.keys.now c.args.visitors.now i (get_or c.in_ok-puts.puts.items i p) (get_or c.args.rows.items i r)
each-put g c i p r lt =
    let rows = c.args.rows.items in
    let job = (c.in_ok-puts.ensures.each i p (omega (arith, lt, c.in_ok-loads.ensures.len, c.args.rows.ok))).1 in
    put-is c.in_ok-counts.counts c.in_ok-pairs.pairs c.args.keys.now c.args.visitors.now c.in_ok-loads.loads.items rows i (get_or c.in_ok-puts.puts.items i p) r job.job lt (job.job_is job.job) job.call.met
    (c.in_ok-loads.ensures.rows i job.job (omega (arith, lt, c.args.rows.ok))) (c.in_ok-loads.ensures.seats i job.job (omega (arith, lt, c.in_ok-loads.ensures.len, c.args.rows.ok)))

as-many : (g : Over) (c : goal.After-close-2 g) → length c.in_ok-puts.puts.items ≡ length c.args.rows.items
as-many g c = omega (arith, c.in_ok-puts.ensures.len, c.in_ok-puts.puts.ok, c.in_ok-loads.ensures.len, c.args.rows.ok)

pub returns-clause-sums : goal.returns-clause-sums
returns-clause-sums g c =
    let rows = c.args.rows.items in
    let puts = c.in_ok-puts.puts.items in
    let long = as-many g c in
    let opening = c.in_ok-counts.counts.opening in
    λ word.
    let read = ap (λ (l : List ℕ). get_or l word 0) c.close.ensures.sums in
    let none = ap (tally_at word) c.in_ok-loads.ensures.count_seat.1 ∙ blank-tally opening.words opening.maxima 1 0 word in
    let all = sum-each (adds c.args.keys.now.numbers word) (λ (p : TableSeats). tally_at word p.counts.view) 0 puts rows long (λ i p r lt. (each-put g c i p r lt).sums word) in
    omega (arith, read, c.join_all.ensures.sums word, none, all)

pub returns-clause-maxima : goal.returns-clause-maxima
returns-clause-maxima g c =
    let rows = c.args.rows.items in
    let puts = c.in_ok-puts.puts.items in
    let long = as-many g c in
    let opening = c.in_ok-counts.counts.opening in
    λ place.
    let read = ap (λ (l : List ℕ). get_or l place 0) c.close.ensures.maxima in
    let none = ap (maximum_at place) c.in_ok-loads.ensures.count_seat.1 ∙ blank-maximum opening.words opening.maxima 1 0 place in
    let all = max-each (raises c.args.keys.now.numbers place) (λ (p : TableSeats). maximum_at place p.counts.view) 0 puts rows long (λ i p r lt. (each-put g c i p r lt).maxima place) in
    omega (arith, read, c.join_all.ensures.maxima place, none, all)

pub returns-clause-pairs : goal.returns-clause-pairs
returns-clause-pairs g c =
    let asked : TableSeats → List Claim = λ (p : TableSeats). p.pairs.claims.asked in
    record {
      claims = c.join_all.new.pair_seat.claims;
      closed = c.close-2.ensures.pairs;
      asked_is =
          c.join_all.ensures.asked ∙ ap (λ (v : Claims). v.asked ++ flat_map asked c.in_ok-puts.puts.items) c.in_ok-loads.ensures.pair_seat.1
          ∙ lists-each (claims_of c.args.keys.now.numbers c.args.visitors.now.numbers) asked 0 c.in_ok-puts.puts.items c.args.rows.items (as-many g c) (λ i p r lt. (each-put g c i p r lt).asked);
    }
