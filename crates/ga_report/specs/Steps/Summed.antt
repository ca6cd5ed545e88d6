-- The items of the rows of a source, on the way to a report.
use Rattle.std.specs.Prelude.{◌≡◌, ℕ, Bool, false, not, ◌+◌, ◌++◌, ◌≤◌, ◌<◌, ◌^◌, max, min, if◌then◌else◌, List, [], ◌∷◌, length, take, filter, count_by, All}
use Rattle.std.specs.Hash.{HashWrites, str}
use Rattle.std.specs.List.Sorted.{IsPermutation, IsSorted}
use Rattle.std.specs.declared.cmp.Ordering.{Ordering}
use Rattle.std.specs.Ordering.{is_lt}
use Rattle.ga_base.specs.declared.key.Key.{Key}
use Rattle.ga_base.specs.declared.panel.Panel.{Panel}
use Rattle.ga_base.specs.Orders.{text_cmp}
use Rattle.ga_base.specs.Panels.{is_same_panel}
use Rattle.ga_report.specs.declared.report.General.{General}
use Rattle.ga_report.specs.Items.{AreItems, undated, is_of, has_item, of_item, item_of}
use Rattle.ga_report.specs.SoundRows.{SumsFit}
use Rattle.ga_report.specs.declared.row_index.RowIndex.{RowIndex}
use Rattle.ga_report.specs.Steps.RowPlaces.{AreIndexes, rows_at}
use Rattle.ga_report.specs.Source.{SourceRow}

abbrev pub plus : SourceRow → SourceRow → SourceRow
plus a b = record {
  key = a.key;
  sums = record {
    hits = a.sums.hits + b.sums.hits;
    bytes = a.sums.bytes + b.sums.bytes;
    micros = a.sums.micros + b.sums.micros;
    max_micros = max a.sums.max_micros b.sums.max_micros;
  };
  visitors = a.visitors + b.visitors;
}

-- two rows can be added
pub record FitTogether (a b : SourceRow) : Type 0 where
  pub hits : a.sums.hits + b.sums.hits < 2 ^ 64
  pub bytes : a.sums.bytes + b.sums.bytes < 2 ^ 64
  pub micros : a.sums.micros + b.sums.micros < 2 ^ 64
  pub visitors : a.visitors + b.visitors < 2 ^ 64

-- a row added to its item, or put at the end where its item isn't there
abbrev pub with_row : SourceRow → List SourceRow → List SourceRow
with_row row [] = row ∷ []
with_row row (item ∷ items) = if is_of item.key row then plus item row ∷ items else item ∷ with_row row items

abbrev pub undate : SourceRow → SourceRow
undate item = record { key = undated item.key; sums = item.sums; visitors = item.visitors }

-- each item of the rows, once
pub record AreSummed (rows items : List SourceRow) : Type 0 where
  pub once : (key : Key) → count_by (is_of key) items ≡ (if has_item key rows then 1 else 0)
  pub sums : All (λ item. undate item ≡ item_of item.key rows) items

-- rows of one item can be added
abbrev pub AreAddable : List SourceRow → Type 0
AreAddable rows = (key : Key) → SumsFit (of_item key rows)

-- the row indexes are those of rows that stand there, of which those of one item can be added
pub record CanAddUp (rows : List SourceRow) (indexes : List RowIndex) : Type 0 where
  pub there : AreIndexes rows indexes (rows_at rows indexes)
  pub fit : AreAddable (rows_at rows indexes)

-- the items of a panel: rows by themselves, and sums of others
abbrev pub items_of : List SourceRow → List RowIndex → List SourceRow → List SourceRow
items_of rows alone added = rows_at rows alone ++ added

-- an item's numbers are parts of the whole
pub record IsPart (general : General) (item : SourceRow) : Type 0 where
  pub hits : item.sums.hits ≤ general.valid_requests
  pub visitors : item.visitors ≤ general.unique_visitors
  pub bytes : item.sums.bytes ≤ general.bandwidth

-- the general numbers with one day more
abbrev pub with_day : General → SourceRow → General
with_day general day = record {
  total_requests = general.total_requests;
  valid_requests = general.valid_requests + day.sums.hits;
  failed_requests = general.failed_requests;
  excluded_hits = general.excluded_hits;
  unique_visitors = general.unique_visitors + day.visitors;
  bandwidth = general.bandwidth + day.sums.bytes;
}

-- a day can be added to the general numbers
pub record DayFits (general : General) (day : SourceRow) : Type 0 where
  pub hits : general.valid_requests + day.sums.hits < 2 ^ 64
  pub visitors : general.unique_visitors + day.visitors < 2 ^ 64
  pub bytes : general.bandwidth + day.sums.bytes < 2 ^ 64

-- the rows of a panel
abbrev pub panel_rows : Panel → List SourceRow → List SourceRow
panel_rows panel rows = filter (λ row. is_same_panel row.key.panel panel) rows

-- items of a panel by their groups
abbrev pub by_parent : SourceRow → SourceRow → Ordering
by_parent a b = text_cmp a.key.parent b.key.parent

-- what an item's name feeds a hasher
abbrev pub fed_name : Key → HashWrites
fed_name key = str key.label ++ str key.parent

-- some of a list that come first: none of the rest is less than one of them
pub record StandFirst (R : SourceRow → SourceRow → Ordering) (most : ℕ) (all first : List SourceRow) : Type 0 where
  pub rest : List SourceRow
  pub are_all : IsPermutation all (first ++ rest)
  pub before : All (λ x. All (λ y. is_lt (R y x) ≡ false) rest) first
  pub many : length first ≡ min most (length all)

-- it doesn't come after the threshold
abbrev pub is_up_to : (SourceRow → SourceRow → Ordering) → SourceRow → SourceRow → Bool
is_up_to R threshold item = not (is_lt (R threshold item))

-- the first of a list's elements in their order
pub record AreFirst (R : SourceRow → SourceRow → Ordering) (most : ℕ) (all first : List SourceRow) : Type 0 where
  pub ordered : List SourceRow
  pub same : IsPermutation all ordered
  pub sorted : IsSorted R ordered
  pub front : first ≡ take most ordered

-- the first of the items of the rows that are to be shown
pub record AreTop (panel : Panel) (is_shown : Key → Bool) (most : ℕ) (rows top : List SourceRow) : Type 0 where
  pub items : List SourceRow
  pub are_items : AreItems panel is_shown rows items
  pub front : top ≡ take most items
