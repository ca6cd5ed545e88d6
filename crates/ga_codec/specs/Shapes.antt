-- Which bytes are a snapshot or a run record, and where bytes that are none stop beginning one.
--
-- A shape is the spelling of any value whose numbers fit their bytes and whose texts are UTF-8. What is read has a shape,
-- and further is in order and sound.
use Rattle.std.specs.Prelude.{◌≡◌, ℕ, ◌<◌, ◌≤◌, ◌^◌, List, ◌++◌, length, take, min, IfSome}
use Rattle.std.specs.List.{AllByRecursion}
use Rattle.std.specs.Str.{IsUtf8}
use Rattle.ga_base.specs.declared.counts.TheConstants.{LIMIT}
use Rattle.ga_base.specs.declared.counts.Sums.{Sums}
use Rattle.ga_base.specs.declared.counts.Totals.{Totals}
use Rattle.ga_base.specs.declared.key.Key.{Key}
use Rattle.ga_base.specs.declared.limits.TheConstants.{FRONT}
use Rattle.ga_base.specs.declared.name.Name.{Name}
use Rattle.ga_summary.specs.SummaryRows.{SummaryRow, SummaryValue}
use Rattle.ga_summary.specs.Sound.{IsSummary}
use Rattle.ga_codec.specs.Values.{EntryValue, SnapshotValue, DeltaValue}
use Rattle.ga_codec.specs.Spelling.{snapshot_bytes, delta_bytes}

-- ---- which values have a spelling

-- a number that eight bytes hold
abbrev pub Fits64 : ℕ → Type 0
Fits64 n = n < 2 ^ 64

pub record FitsText (text : List ℕ) : Type 0 where
  pub utf8 : IsUtf8 text
  pub size : Fits64 (length text)

pub record FitsTotals (t : Totals) : Type 0 where
  pub lines : Fits64 t.lines
  pub failed : Fits64 t.failed
  pub excluded : Fits64 t.excluded
  pub hits : Fits64 t.hits
  pub bytes : Fits64 t.bytes
  pub micros : Fits64 t.micros

pub record FitsKey (k : Key) : Type 0 where
  pub date : k.date < 2 ^ 32
  pub parent : FitsText k.parent
  pub label : FitsText k.label
  pub method : FitsText k.method
  pub protocol : FitsText k.protocol

pub record FitsSums (s : Sums) : Type 0 where
  pub hits : Fits64 s.hits
  pub bytes : Fits64 s.bytes
  pub micros : Fits64 s.micros
  pub max_micros : Fits64 s.max_micros

pub record FitsName (n : Name) : Type 0 where
  pub host : FitsText n.host
  pub agent : FitsText n.agent

pub record FitsList {A : Type 0} (FitsItem : A → Type 0) (items : List A) : Type 0 where
  pub number : Fits64 (length items)
  pub each : AllByRecursion FitsItem items

pub record FitsRow (row : SummaryRow) : Type 0 where
  pub key : FitsKey row.key
  pub sums : FitsSums row.sums
  pub names : FitsList FitsName row.names

pub record FitsSummary (s : SummaryValue) : Type 0 where
  pub totals : FitsTotals s.totals
  pub rows : FitsList FitsRow s.rows

pub record FitsEntry (e : EntryValue) : Type 0 where
  pub lead : e.lead < 2 ^ 16
  pub digest : length e.digest ≡ 32
  pub bytes : AllByRecursion (λ byte. byte < 256) e.digest
  pub offset : Fits64 e.offset

pub record IsGeneration (generation : ℕ) : Type 0 where
  pub first : 1 ≤ generation
  pub last : generation ≤ LIMIT

pub record FitsSnapshot (s : SnapshotValue) : Type 0 where
  pub generation : IsGeneration s.generation
  pub keep : IfSome s.keep (λ n. n < 2 ^ 32)
  pub summary : FitsSummary s.summary
  pub entries : FitsList FitsEntry s.entries

pub record FitsDelta (d : DeltaValue) : Type 0 where
  pub summary : FitsSummary d.summary
  pub entries : FitsList FitsEntry d.entries

-- ---- what may be read

-- a log of which something was counted, known again by its first FRONT bytes or all that were counted
pub record IsEntry (e : EntryValue) : Type 0 where
  pub counted : 1 ≤ e.offset
  pub lead : e.lead ≡ min e.offset FRONT

-- the bytes are the spelling of this snapshot, which is in order and sound
pub record SpellSnapshot (bytes : List ℕ) (s : SnapshotValue) : Type 0 where
  pub spelled : bytes ≡ snapshot_bytes s
  pub fits : FitsSnapshot s
  pub summary : IsSummary s.summary
  pub entries : AllByRecursion IsEntry s.entries

pub record SpellDelta (bytes : List ℕ) (d : DeltaValue) : Type 0 where
  pub spelled : bytes ≡ delta_bytes d
  pub fits : FitsDelta d
  pub summary : IsSummary d.summary
  pub entries : AllByRecursion IsEntry d.entries

-- ---- where bytes stop

abbrev pub IsSnapshotShape : List ℕ → Type 0
IsSnapshotShape bytes = (s : SnapshotValue) × FitsSnapshot s × (bytes ≡ snapshot_bytes s)

abbrev pub IsDeltaShape : List ℕ → Type 0
IsDeltaShape bytes = (d : DeltaValue) × FitsDelta d × (bytes ≡ delta_bytes d)

-- more bytes could follow these to make one of the kind
abbrev pub Begins : (List ℕ → Type 0) → List ℕ → Type 0
Begins IsOne front = (more : List ℕ) × IsOne (front ++ more)

-- of the fronts of the bytes that begin one of the kind the longest has this length
pub record IsLongest (IsOne : List ℕ → Type 0) (bytes : List ℕ) (at : ℕ) : Type 0 where
  pub within : at ≤ length bytes
  pub begins : Begins IsOne (take at bytes)
  pub longest : (n : ℕ) → n ≤ length bytes → Begins IsOne (take n bytes) → n ≤ at

-- the bytes spell no snapshot, and begin a shape up to here; where they are a whole shape, that is their length
pub record IsNoSnapshot (bytes : List ℕ) (at : ℕ) : Type 0 where
  pub none : (s : SnapshotValue) → SpellSnapshot bytes s → ⊥
  pub place : IsLongest IsSnapshotShape bytes at

pub record IsNoDelta (bytes : List ℕ) (at : ℕ) : Type 0 where
  pub none : (d : DeltaValue) → SpellDelta bytes d → ⊥
  pub place : IsLongest IsDeltaShape bytes at
