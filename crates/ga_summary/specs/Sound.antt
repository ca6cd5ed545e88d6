-- What holds of every summary: its numbers can be the sum of some lines of a log.
use Rattle.std.specs.Prelude.{◌≡◌, ℕ, ◌≤◌, ◌==◌, ◌&&◌, true, is_some, List, length, filter, sum_by, count_by, All, Contains}
use Rattle.std.specs.List.Sorted.{IsStrictlySortedBy}
use Rattle.std.specs.Option.{ForSome}
use Rattle.ga_base.specs.declared.counts.TheConstants.{BIG}
use Rattle.ga_base.specs.declared.key.Key.{Key}
use Rattle.ga_base.specs.declared.key.Visitor.{Visitor}
use Rattle.ga_base.specs.Layers.{HasForm, Layer, day_key, in_layer, is_day}
use Rattle.ga_base.specs.Orders.{key_cmp}
use Rattle.ga_base.specs.Totals.{LinesAdd, TotalsFit}
use Rattle.ga_summary.specs.Outcomes.{Hit, Outcome, hits_of}
use Rattle.ga_summary.specs.SummaryRows.{SummaryRow, SummaryValue, IsInOrder, row_at, sums_at, names_at, has_pair}

-- the rows of a layer on a day
abbrev pub layer_rows : Layer → ℕ → List SummaryRow → List SummaryRow
layer_rows layer date rows = filter (λ row. (row.key.date == date) && in_layer layer row.key) rows

-- the rows of days, without those of parts of days
abbrev pub day_rows : List SummaryRow → List SummaryRow
day_rows rows = filter (λ row. is_day row.key) rows

-- the rows' hits, bytes and micros sum to at most those
pub record SumsWithin (rows : List SummaryRow) (most_hits most_bytes most_micros : ℕ) : Type 0 where
  pub hits : sum_by (λ row. row.sums.hits) rows ≤ most_hits
  pub bytes : sum_by (λ row. row.sums.bytes) rows ≤ most_bytes
  pub micros : sum_by (λ row. row.sums.micros) rows ≤ most_micros

abbrev pub HasRow : List SummaryRow → Key → Type 0
HasRow rows key = is_some (row_at rows key) ≡ true

-- what holds of the rows alone
pub record RowsAreSound (rows : List SummaryRow) : Type 0 where
  -- each key has its form, and its day has a row
  pub form : (key : Key) → HasRow rows key → HasForm key
  pub day : (key : Key) → HasRow rows key → HasRow rows (day_key key.date)
  -- a layer sums to at most the day's row, and each key has a hit
  pub layers : (layer : Layer) (date : ℕ) → let day = sums_at rows (day_key date) in SumsWithin (layer_rows layer date rows) day.hits day.bytes day.micros
  pub hit : (key : Key) → HasRow rows key → 1 ≤ (sums_at rows key).hits
  -- a key's visitor is one of the day's, and a key has at most as many visitors as hits
  pub visitors : (key : Key) (visitor : Visitor) → has_pair rows key visitor ≡ true → has_pair rows (day_key key.date) visitor ≡ true
  pub visits : (key : Key) → length (names_at rows key) ≤ (sums_at rows key).hits

-- what holds of the totals over the rows
pub record TotalsAreSound (s : SummaryValue) : Type 0 where
  -- the days sum to at most the totals, which add up and fit
  pub days : SumsWithin (day_rows s.rows) s.totals.hits s.totals.bytes s.totals.micros
  pub lines : LinesAdd s.totals
  pub fit : TotalsFit s.totals
  -- a maximum is a time, and at most its key's sum
  pub times : (key : Key) → ((sums_at s.rows key).max_micros ≤ BIG) × ((sums_at s.rows key).max_micros ≤ (sums_at s.rows key).micros)

pub record IsSound (s : SummaryValue) : Type 0 where
  pub rows : RowsAreSound s.rows
  pub totals : TotalsAreSound s

-- what may be counted on a day: keys of that day, in order, each in its form, among them the day's own and at most
-- one of each layer; a visitor of that day; a size and a time of one line
pub record IsCountable (date : ℕ) (hit : Hit) : Type 0 where
  pub rising : IsStrictlySortedBy key_cmp hit.keys
  pub dated : All (λ key. key.date ≡ date) hit.keys
  pub formed : All HasForm hit.keys
  pub day : Contains hit.keys (day_key date)
  pub layers : (layer : Layer) → count_by (in_layer layer) hit.keys ≤ 1
  pub visitor : ForSome hit.visitor (λ v. v.date ≡ date)
  pub bytes : hit.bytes ≤ BIG
  pub micros : hit.micros ≤ BIG

-- each counted line may be counted on some day
abbrev pub AllCountable : List Outcome → Type 0
AllCountable outcomes = All (λ hit. (date : ℕ) × IsCountable date hit) (hits_of outcomes)

-- what every summary is: in order and sound
pub record IsSummary (s : SummaryValue) : Type 0 where
  pub ordered : IsInOrder s.rows
  pub sound : IsSound s
