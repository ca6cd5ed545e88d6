-- What each worker put in, by its place.
use Rattle.std.proofs.Common.{◌≡◌, ℕ, zero, suc, ◌+◌, ◌<◌, List, [], ◌∷◌, length, get_or, refl, sym, ap, ◌∙◌, arith}
use Rattle.ga_base.specs.declared.key.Key.{Key}
use Rattle.ga_base.specs.declared.key.Visitor.{Visitor}
use Rattle.ga_counts.specs.Counts.{TableSeen, blank, maximum_at, tally_at}
use Rattle.ga_pairs.specs.Pairs.{SetSeen}
use Rattle.ga_pool.specs.Steps.Filled.{HasPut, IsSeated}
use Rattle.ga_pool.specs.Steps.Filling.{adds, claims_of, raises, weight_of_rows}
use Rattle.ga_pool.specs.declared.filling.FillTask.{FillTask}
use Rattle.ga_pool.specs.declared.filling.TableSeats.{TableSeats}
use Rattle.ga_pool.specs.declared.table_inputs.TableRows.{TableRows}
use Rattle.ga_pool.proofs.FillTables.{blank-maximum, blank-tally}
use Rattle.ga_shards.specs.Numbers.{NumberingSeen}

pub same-at : {X : Type 0} (xs : List X) (i : ℕ) (d e : X) → i < length xs → get_or xs i d ≡ get_or xs i e
same-at [] i d e lt = absurd (omega arith)
same-at (x ∷ xs) zero d e lt = refl
same-at (x ∷ xs) (suc i) d e lt = same-at xs i d e (omega arith)

-- the rows of a worker were put in
pub record PutIs (keys : NumberingSeen Key) (visitors : NumberingSeen Visitor) (i : ℕ) (put : TableSeats) (rows : TableRows) : Type 0 where
  pub sums : (word : ℕ) → tally_at word put.counts.view ≡ adds keys.numbers word (0 + i) rows
  pub maxima : (place : ℕ) → maximum_at place put.counts.view ≡ raises keys.numbers place (0 + i) rows
  pub asked : put.pairs.claims.asked ≡ claims_of keys.numbers visitors.numbers (0 + i) rows

pub put-is : (counts : TableSeen) (pairs : SetSeen) (keys : NumberingSeen Key) (visitors : NumberingSeen Visitor) (loads : List FillTask) (rows : List TableRows) (i : ℕ) (put : TableSeats) (r : TableRows) (job : FillTask)
    → i < length rows → get_or loads i job ≡ job → HasPut counts pairs keys visitors job put
    → ((get_or loads i job).worker ≡ i) × ((get_or loads i job).rows ≡ get_or rows i (get_or loads i job).rows) → IsSeated counts pairs (get_or loads i job) → PutIs keys visitors i put (get_or rows i r)
put-is counts pairs keys visitors loads rows i put r job lt is has at seated =
    let mine : job.rows ≡ get_or rows i r = sym (ap (λ (l : FillTask). l.rows) is) ∙ at.1 ∙ same-at rows i (get_or loads i job).rows r lt in
    let worker : job.worker ≡ 0 + i = sym (ap (λ (l : FillTask). l.worker) is) ∙ at.0 ∙ omega arith in
    let view : job.counts.view ≡ blank counts.opening.words counts.opening.maxima 1 (weight_of_rows (get_or loads i job).rows) = sym (ap (λ (l : FillTask). l.counts.view) is) ∙ seated.counts_view in
    record {
      sums = λ word.
          let none = ap (tally_at word) view ∙ blank-tally counts.opening.words counts.opening.maxima 1 (weight_of_rows (get_or loads i job).rows) word in
          let mine' : adds keys.numbers word job.worker job.rows ≡ adds keys.numbers word (0 + i) (get_or rows i r) = λ j. adds keys.numbers word (worker j) (mine j) in
          omega (arith, has.counts_view.tallies word, none, mine');
      maxima = λ place.
          let none = ap (maximum_at place) view ∙ blank-maximum counts.opening.words counts.opening.maxima 1 (weight_of_rows (get_or loads i job).rows) place in
          let mine' : raises keys.numbers place job.worker job.rows ≡ raises keys.numbers place (0 + i) (get_or rows i r) = λ j. raises keys.numbers place (worker j) (mine j) in
          omega (arith, has.counts_view.peaks place, none, mine');
      asked = has.asked ∙ (λ j. claims_of keys.numbers visitors.numbers (worker j) (mine j));
    }
