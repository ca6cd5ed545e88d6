-- What a snapshot and a run record say.
use Rattle.std.specs.Prelude.{ℕ, List, Option, map}
use Rattle.ga_base.specs.declared.entry.Entry.{Entry}
use Rattle.ga_summary.specs.SummaryRows.{SummaryValue}
use Rattle.ga_codec.specs.declared.snapshot.Snapshot.{Snapshot}
use Rattle.ga_codec.specs.declared.snapshot.Delta.{Delta}

-- how far a log was counted, and the digest by which it is known again
pub record EntryValue : Type 0 where
  pub lead : ℕ
  pub digest : List ℕ
  pub offset : ℕ

-- a whole database, and the number of its generation
pub record SnapshotValue : Type 0 where
  pub generation : ℕ
  -- how many of the last days it keeps, 0 for all; None in a snapshot of version 1, which doesn't say it
  pub keep : Option ℕ
  pub summary : SummaryValue
  pub entries : List EntryValue

-- what one run adds, and all entries as they stand after it
pub record DeltaValue : Type 0 where
  pub summary : SummaryValue
  pub entries : List EntryValue

abbrev pub entry_value : Entry → EntryValue
entry_value e = record { lead = e.lead; digest = e.digest; offset = e.offset }

abbrev pub snapshot_value : Snapshot → SnapshotValue
snapshot_value s = record { generation = s.generation; keep = s.keep; summary = s.summary; entries = map entry_value s.entries }

abbrev pub delta_value : Delta → DeltaValue
delta_value d = record { summary = d.summary; entries = map entry_value d.entries }
