-- Each kind of part that is read.
use Rattle.std.specs.Prelude.{◌≡◌, ℕ, ◌*◌, ◌<◌, ◌^◌, Bool, true, false, List, [], length, Option, None, Some, IfSome, is_some}
use Rattle.std.specs.List.{AllByRecursion}
use Rattle.std.specs.Int.{Width, byte_len, to_be_bytes}
use Rattle.std.specs.Str.{IsUtf8}
use Rattle.ga_base.specs.declared.counts.Sums.{Sums}
use Rattle.ga_base.specs.declared.counts.Totals.{Totals}
use Rattle.ga_base.specs.declared.key.Key.{Key}
use Rattle.ga_base.specs.declared.name.Name.{Name}
use Rattle.ga_base.specs.declared.panel.Panel.{Panel}
use Rattle.ga_summary.specs.SummaryRows.{SummaryRow, SummaryValue}
use Rattle.ga_codec.specs.declared.snapshot_start.Start.{Start}
use Rattle.ga_codec.specs.Values.{EntryValue, SnapshotValue, DeltaValue}
use Rattle.ga_codec.specs.Spelling.{four_bytes, eight_bytes, text_bytes, totals_bytes, panel_bytes, key_bytes, sums_bytes, name_bytes, row_bytes, summary_bytes, entry_bytes}
use Rattle.ga_codec.specs.Spelling.{version_bytes, keep_version_bytes, snapshot_head, snapshot_bytes, delta_bytes}
use Rattle.ga_codec.specs.Shapes.{FitsText, FitsTotals, FitsKey, FitsSums, FitsName, FitsRow, FitsSummary, FitsEntry, IsGeneration, FitsSnapshot, FitsDelta}
use Rattle.ga_codec.specs.Steps.Parts.{Part}

-- this many bytes, whatever they are
abbrev pub any_bytes : ℕ → Part (List ℕ)
any_bytes n = record { spell = λ bytes. bytes; fits = λ bytes. (length bytes ≡ n) × AllByRecursion (λ byte. byte < 256) bytes }

abbrev pub number : Width → Part ℕ
number w = record { spell = λ n. to_be_bytes w n; fits = λ n. n < 2 ^ (8 * byte_len w) }

-- the bytes of a text of this length
abbrev pub utf8 : ℕ → Part (List ℕ)
utf8 size = record { spell = λ text. text; fits = λ text. IsUtf8 text × (length text ≡ size) }

abbrev pub text : Part (List ℕ)
text = record { spell = text_bytes; fits = λ t. FitsText t }

abbrev pub version : Part (Unit {0})
version = record { spell = λ _. version_bytes; fits = λ _. Unit {0} }

abbrev pub generation : Part ℕ
generation = record { spell = eight_bytes; fits = λ g. IsGeneration g }

-- the version of a snapshot, by whether it says how many days it keeps
abbrev pub bytes_of_version : Bool → List ℕ
bytes_of_version false = version_bytes
bytes_of_version true = keep_version_bytes

abbrev pub snapshot_version : Part Bool
snapshot_version = record { spell = bytes_of_version; fits = λ _. Unit {0} }

abbrev pub keep_bytes : Option ℕ → List ℕ
keep_bytes None = []
keep_bytes (Some keep) = four_bytes keep

-- how many days a snapshot keeps, where its version says so
abbrev pub keep_of : Bool → Part (Option ℕ)
keep_of has_keep = record { spell = keep_bytes; fits = λ keep. (is_some keep ≡ has_keep) × IfSome keep (λ n. n < 2 ^ 32) }

-- what is before a snapshot's summary
abbrev pub snapshot_start : Part Start
snapshot_start = record { spell = λ s. snapshot_head s.generation s.keep; fits = λ s. IsGeneration s.generation × IfSome s.keep (λ n. n < 2 ^ 32) }

abbrev pub totals : Part Totals
totals = record { spell = totals_bytes; fits = λ t. FitsTotals t }

abbrev pub panel : Part Panel
panel = record { spell = panel_bytes; fits = λ _. Unit {0} }

abbrev pub key : Part Key
key = record { spell = key_bytes; fits = λ k. FitsKey k }

abbrev pub sums : Part Sums
sums = record { spell = sums_bytes; fits = λ s. FitsSums s }

abbrev pub name : Part Name
name = record { spell = name_bytes; fits = λ n. FitsName n }

abbrev pub row : Part SummaryRow
row = record { spell = row_bytes; fits = λ r. FitsRow r }

abbrev pub summary : Part SummaryValue
summary = record { spell = summary_bytes; fits = λ s. FitsSummary s }

abbrev pub entry : Part EntryValue
entry = record { spell = entry_bytes; fits = λ e. FitsEntry e }

abbrev pub snapshot : Part SnapshotValue
snapshot = record { spell = snapshot_bytes; fits = λ s. FitsSnapshot s }

abbrev pub delta : Part DeltaValue
delta = record { spell = delta_bytes; fits = λ d. FitsDelta d }
