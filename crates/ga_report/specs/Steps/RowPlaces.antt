-- Where rows stand.
use Rattle.std.specs.Prelude.{◌≡◌, ℕ, List, Option, Some, map, option_map, slice_get}
use Rattle.std.specs.List.{filter_map}
use Rattle.ga_report.specs.declared.row_index.RowIndex.{RowIndex}
use Rattle.ga_report.specs.Source.{SourceRow}
use Rattle.ga_shards.specs.Keys.{text_hash}

-- at these places of the rows stand those, in their order
abbrev pub AreAt : List SourceRow → List ℕ → List SourceRow → Type 0
AreAt rows places those = map (slice_get rows) places ≡ map Some those

-- the hash of a row's label. It is the same on each day
abbrev pub label_hash : SourceRow → ℕ
label_hash row = text_hash row.key.label

-- a place where a row stands, with the hash of its label
abbrev pub index_at : List SourceRow → ℕ → Option RowIndex
index_at rows place = option_map (λ row. record { place = place; hash = label_hash row }) (slice_get rows place)

abbrev pub row_at : List SourceRow → RowIndex → Option SourceRow
row_at rows row_index = slice_get rows row_index.place

-- the rows that stand at these row indexes
abbrev pub rows_at : List SourceRow → List RowIndex → List SourceRow
rows_at rows indexes = filter_map (row_at rows) indexes

-- at these row indexes stand those rows, in their order, whose labels have the hashes of the row indexes
pub record AreIndexes (rows : List SourceRow) (indexes : List RowIndex) (those : List SourceRow) : Type 0 where
  pub at : map (row_at rows) indexes ≡ map Some those
  pub hashes : map (λ row_index. row_index.hash) indexes ≡ map label_hash those
