-- What workers begin with when they fill the tables, what they give back, and what the tables have then.
use Rattle.std.specs.Prelude.{◌≡◌, ◌*◌, ◌<◌, ℕ, List, length, slice_index_or}
use Rattle.ga_base.specs.declared.key.Key.{Key}
use Rattle.ga_base.specs.declared.key.Visitor.{Visitor}
use Rattle.ga_counts.specs.Counts.{TableSeen, blank}
use Rattle.ga_pairs.specs.Pairs.{IsClosed, SetSeen, given}
use Rattle.ga_pairs.specs.declared.view.Claims.{Claims}
use Rattle.ga_pairs.specs.declared.view.Pair.{Pair as Claim}
use Rattle.ga_pool.specs.Steps.Filling.{CanPut, Gains, adds, claims_of, raises, weight_of_rows}
use Rattle.ga_pool.specs.declared.filling.FillTask.{FillTask}
use Rattle.ga_pool.specs.declared.filling.TableSeats.{TableSeats}
use Rattle.ga_pool.specs.declared.table_inputs.TableRows.{TableRows}
use Rattle.ga_shards.specs.Numbers.{NumberingSeen}

-- the rows of each worker can be put in
abbrev pub CanPutAll : NumberingSeen Key → NumberingSeen Visitor → List TableRows → Type 0
CanPutAll keys visitors rows = (worker : ℕ) (d : TableRows) → worker < length rows
    → CanPut (length keys.items) (length visitors.items) keys.numbers visitors.numbers worker (slice_index_or rows worker d)

-- the tables are of these numbers
pub record AreTablesOf (keys : NumberingSeen Key) (visitors : NumberingSeen Visitor) (counts : TableSeen) : Type 0 where
  pub words : counts.opening.words ≡ 3 * length keys.items
  pub places : counts.opening.maxima ≡ length keys.items
  pub fits : 3 * length keys.items < 4294967296
  pub visitors_fit : length visitors.items < 4294967296

-- a worker's seats are of these tables, have one share and have put in nothing; they are allowed what the worker's rows weigh
pub record IsSeated (counts : TableSeen) (pairs : SetSeen) (load : FillTask) : Type 0 where
  pub counts_table : load.counts.table ≡ counts.table
  pub pairs_table : load.pairs.table ≡ pairs.table
  pub counts_view : load.counts.view ≡ blank counts.opening.words counts.opening.maxima 1 (weight_of_rows load.rows)
  pub pairs_view : load.pairs.claims ≡ given 1 (length load.rows.pairs.items)

-- a load can be put into the tables
pub record CanBePut (counts : TableSeen) (pairs : SetSeen) (keys : NumberingSeen Key) (visitors : NumberingSeen Visitor) (load : FillTask) : Type 0 where
  pub tables : AreTablesOf keys visitors counts
  pub seated : IsSeated counts pairs load
  pub rows : CanPut (length keys.items) (length visitors.items) keys.numbers visitors.numbers load.worker load.rows

-- it was put in, by a worker that gives its seats back
pub record HasPut (counts : TableSeen) (pairs : SetSeen) (keys : NumberingSeen Key) (visitors : NumberingSeen Visitor) (load : FillTask) (put : TableSeats) : Type 0 where
  pub counts_table : put.counts.table ≡ counts.table
  pub pairs_table : put.pairs.table ≡ pairs.table
  pub counts_share : put.counts.view.share ≡ 1
  pub pairs_share : put.pairs.claims.share ≡ 1
  pub counts_view : Gains load.counts.view put.counts.view (λ word. adds keys.numbers word load.worker load.rows) (λ place. raises keys.numbers place load.worker load.rows)
  pub asked : put.pairs.claims.asked ≡ claims_of keys.numbers visitors.numbers load.worker load.rows

-- the words of a closed set are those of these claims
pub record ClosesOver (asked : List Claim) (words : List ℕ) : Type 0 where
  pub claims : Claims
  pub closed : IsClosed claims words
  pub asked_is : claims.asked ≡ asked
