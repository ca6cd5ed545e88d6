-- What is read before its conditions are tested.
use Rattle.std.specs.Prelude.{map}
use Rattle.std.specs.List.{AllByRecursion}
use Rattle.ga_summary.specs.declared.row_view.RowView.{RowView}
use Rattle.ga_summary.specs.SummaryRows.{SummaryRow}
use Rattle.ga_summary.specs.SummaryParts.{value_of}
use Rattle.ga_summary.specs.Sound.{IsSummary}
use Rattle.ga_codec.specs.declared.entry_shape.EntryShape.{EntryShape}
use Rattle.ga_codec.specs.declared.snapshot_reading.Body.{Body}
use Rattle.ga_codec.specs.declared.snapshot_start.Start.{Start}
use Rattle.ga_codec.specs.Values.{EntryValue, SnapshotValue, DeltaValue}
use Rattle.ga_codec.specs.Shapes.{IsEntry}

abbrev pub shape_value : EntryShape → EntryValue
shape_value e = record { lead = e.lead; digest = e.digest; offset = e.offset }

abbrev pub snapshot_shape : Start → Body → SnapshotValue
snapshot_shape start body = record { generation = start.generation; keep = start.keep; summary = value_of body.summary; entries = map shape_value body.entries.items }

abbrev pub delta_shape : Body → DeltaValue
delta_shape body = record { summary = value_of body.summary; entries = map shape_value body.entries.items }

-- the conditions on a shape
pub record AreGood (body : Body) : Type 0 where
  pub summary : IsSummary (value_of body.summary)
  pub entries : AllByRecursion IsEntry (map shape_value body.entries.items)

-- a row as it is lent
abbrev pub viewed_row : RowView → SummaryRow
viewed_row row = record { key = row.key.now; sums = row.sums; names = row.names.now }
