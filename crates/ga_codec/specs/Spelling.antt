-- The one spelling of each snapshot and each run record. Numbers are big-endian.
use Rattle.std.specs.Prelude.{ℕ, ◌+◌, List, [], ◌∷◌, ◌++◌, length, Option, None, Some}
use Rattle.std.specs.List.{flat_map}
use Rattle.std.specs.Int.{w16, w32, w64, to_be_bytes}
use Rattle.ga_base.specs.declared.counts.Sums.{Sums}
use Rattle.ga_base.specs.declared.counts.Totals.{Totals}
use Rattle.ga_base.specs.declared.key.Key.{Key}
use Rattle.ga_base.specs.declared.name.Name.{Name}
use Rattle.ga_base.specs.declared.panel.Panel.{Panel}
use Rattle.ga_base.specs.Panels.{panel_number}
use Rattle.ga_summary.specs.SummaryRows.{SummaryRow, SummaryValue}
use Rattle.ga_codec.specs.Values.{EntryValue, SnapshotValue, DeltaValue}

abbrev pub two_bytes : ℕ → List ℕ
two_bytes n = to_be_bytes w16 n

abbrev pub four_bytes : ℕ → List ℕ
four_bytes n = to_be_bytes w32 n

abbrev pub eight_bytes : ℕ → List ℕ
eight_bytes n = to_be_bytes w64 n

-- the number of its bytes, and these
abbrev pub text_bytes : List ℕ → List ℕ
text_bytes text = eight_bytes (length text) ++ text

-- the number of items, and these in order
abbrev pub list_bytes : {A : Type 0} → (A → List ℕ) → List A → List ℕ
list_bytes item_bytes items = eight_bytes (length items) ++ flat_map item_bytes items

abbrev pub totals_bytes : Totals → List ℕ
totals_bytes t = eight_bytes t.lines ++ eight_bytes t.failed ++ eight_bytes t.excluded ++ eight_bytes t.hits ++ eight_bytes t.bytes ++ eight_bytes t.micros

-- panels count from 1, in the report's order
abbrev pub panel_bytes : Panel → List ℕ
panel_bytes panel = (panel_number panel + 1) ∷ []

abbrev pub key_bytes : Key → List ℕ
key_bytes k = panel_bytes k.panel ++ four_bytes k.date ++ text_bytes k.parent ++ text_bytes k.label ++ text_bytes k.method ++ text_bytes k.protocol

abbrev pub sums_bytes : Sums → List ℕ
sums_bytes s = eight_bytes s.hits ++ eight_bytes s.bytes ++ eight_bytes s.micros ++ eight_bytes s.max_micros

abbrev pub name_bytes : Name → List ℕ
name_bytes n = text_bytes n.host ++ text_bytes n.agent

abbrev pub row_bytes : SummaryRow → List ℕ
row_bytes row = key_bytes row.key ++ sums_bytes row.sums ++ list_bytes name_bytes row.names

abbrev pub summary_bytes : SummaryValue → List ℕ
summary_bytes s = totals_bytes s.totals ++ list_bytes row_bytes s.rows

abbrev pub entry_bytes : EntryValue → List ℕ
entry_bytes e = two_bytes e.lead ++ e.digest ++ eight_bytes e.offset

-- the version of a run record, and of a snapshot that doesn't say how many days it keeps
abbrev pub version_bytes : List ℕ
version_bytes = 1 ∷ []

-- the version of a snapshot that says how many days it keeps
abbrev pub keep_version_bytes : List ℕ
keep_version_bytes = 2 ∷ []

-- a snapshot's version, its generation, and how many days it keeps where it says so
abbrev pub snapshot_head : ℕ → Option ℕ → List ℕ
snapshot_head generation None = version_bytes ++ eight_bytes generation
snapshot_head generation (Some keep) = keep_version_bytes ++ eight_bytes generation ++ four_bytes keep

abbrev pub snapshot_bytes : SnapshotValue → List ℕ
snapshot_bytes s = snapshot_head s.generation s.keep ++ summary_bytes s.summary ++ list_bytes entry_bytes s.entries

abbrev pub delta_bytes : DeltaValue → List ℕ
delta_bytes d = version_bytes ++ summary_bytes d.summary ++ list_bytes entry_bytes d.entries
