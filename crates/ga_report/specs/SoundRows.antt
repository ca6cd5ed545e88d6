-- What the numbers of a source keep to, so that each part of a report is at most the whole.
use Rattle.std.specs.Prelude.{◌≡◌, ℕ, ◌≤◌, ◌==◌, ◌&&◌, true, List, filter, map, sum_by, All}
use Rattle.std.specs.List.{IsDistinct, list_any}
use Rattle.ga_base.specs.declared.counts.TheConstants.{LIMIT}
use Rattle.ga_base.specs.declared.counts.Sums.{Sums}
use Rattle.ga_base.specs.Layers.{Layer, in_layer, is_day}
use Rattle.ga_base.specs.Orders.{is_same_key}
use Rattle.ga_report.specs.Source.{SourceRow}

-- the rows of the days, without those of parts of days
abbrev pub day_rows : List SourceRow → List SourceRow
day_rows rows = filter (λ row. is_day row.key) rows

-- the rows of a layer on a day
abbrev pub layer_rows : Layer → ℕ → List SourceRow → List SourceRow
layer_rows layer date rows = filter (λ row. (row.key.date == date) && in_layer layer row.key) rows

-- the rows' hits, bytes and micros sum to at most those
pub record SumsWithin (rows : List SourceRow) (most : Sums) : Type 0 where
  pub hits : sum_by (λ row. row.sums.hits) rows ≤ most.hits
  pub bytes : sum_by (λ row. row.sums.bytes) rows ≤ most.bytes
  pub micros : sum_by (λ row. row.sums.micros) rows ≤ most.micros

-- the sums over some rows are at most the limit of a counter
pub record SumsFit (rows : List SourceRow) : Type 0 where
  pub hits : sum_by (λ row. row.sums.hits) rows ≤ LIMIT
  pub visitors : sum_by (λ row. row.visitors) rows ≤ LIMIT
  pub bytes : sum_by (λ row. row.sums.bytes) rows ≤ LIMIT
  pub micros : sum_by (λ row. row.sums.micros) rows ≤ LIMIT

-- each row's day is the day of one of these
abbrev pub HasDay : List SourceRow → SourceRow → Type 0
HasDay days row = list_any (λ day. row.key.date == day.key.date) days ≡ true

pub record AreSound (rows : List SourceRow) : Type 0 where
  -- keys are all different, and each has a hit
  pub different : IsDistinct is_same_key (map (λ row. row.key) rows)
  pub hit : All (λ row. 1 ≤ row.sums.hits) rows
  -- each row's day has a row, a layer sums to at most that, and no key has more visitors on the day
  pub dated : All (HasDay (day_rows rows)) rows
  pub layers : All (λ day. (layer : Layer) → SumsWithin (layer_rows layer day.key.date rows) day.sums) (day_rows rows)
  pub visits : All (λ day. All (λ row. row.key.date ≡ day.key.date → row.visitors ≤ day.visitors) rows) (day_rows rows)
  -- the sums over the days fit
  pub fit : SumsFit (day_rows rows)
