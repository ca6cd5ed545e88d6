-- What a commit writes, and the database that it makes.
use Rattle.std.specs.Prelude.{◌≡◌, ◌⊎◌, ℕ, ◌+◌, ◌-◌, ◌<◌, ◌&&◌, ◌^◌, Bool, true, false, List, [], ◌∷◌, ◌++◌, length, take, drop, nat_lt, nat_le, slice_index, ◌==◌, ◌||◌, if◌then◌else◌, Option, Some, None, is_some}
use Rattle.ga_base.specs.declared.counts.TheConstants.{LIMIT}
use Rattle.ga_summary.specs.LastDays.{trimmed}
use Rattle.ga_summary.specs.Limits.{passes}
use Rattle.ga_summary.specs.SummaryRows.{SummaryValue}
use Rattle.ga_base.specs.Totals.{totals_plus}
use Rattle.ga_summary.specs.Sums.{IsMerged}
use Rattle.ga_codec.specs.Shapes.{SpellDelta, SpellSnapshot}
use Rattle.ga_codec.specs.Values.{EntryValue}
use Rattle.ga_store.specs.SideParts.{closed_gate, open_gate, part_bytes}
use Rattle.ga_store.specs.Database.{DbValue, of_snapshot, with_last_days}
use Rattle.ga_store.specs.declared.mode.Mode.{Mode}
use Rattle.ga_store.specs.declared.mode.Mode.TheVariants.{Append, Overwrite}
use Rattle.ga_store.specs.declared.position.Position.{Position}

-- a side has room for this many run records after its snapshot
abbrev pub most_records : ℕ
most_records = 64

-- work that is prepared
pub record Work : Type 0 where
  -- the side that is written, and the place of the gate there
  pub side : ℕ
  pub gate : ℕ
  -- what is written after it: a part, and a closed gate
  pub tail : List ℕ
  -- it is a new generation, which the side ends after, and not a run record
  pub is_new : Bool

-- a part with this body, and a closed gate after it
abbrev pub closed_part : List ℕ → List ℕ
closed_part body = part_bytes body ++ closed_gate ∷ []

-- the side after a whole commit: what is in front of the gate, the open gate, the part, the next gate, and what stood
-- after that unless it was cut off
abbrev pub committed : Work → List ℕ → List ℕ
committed w side = take w.gate side ++ open_gate ∷ w.tail ++ (if w.is_new then [] else drop (w.gate + 1 + length w.tail) side)

-- ---- the calls of a commit

-- a gate is closed where no byte is there, or that of an open gate
abbrev pub must_close : ℕ → List ℕ → Bool
must_close gate side = nat_le (length side) gate || (slice_index side gate == open_gate)

-- the look at a gate: the size of its side, and its byte, if there is one
abbrev pub look_calls : ℕ → List ℕ → ℕ
look_calls gate side = if nat_le (length side) gate then 1 else 2

-- the look, and where the gate must be closed a write and a sync
abbrev pub closing_calls : ℕ → List ℕ → ℕ
closing_calls gate side = look_calls gate side + (if must_close gate side then 2 else 0)

-- a write and a sync of the tail, and of a new generation a cut between them
abbrev pub tail_calls : Bool → ℕ
tail_calls new = if new then 3 else 2

-- these, and a write and a sync of the open gate
abbrev pub commit_calls : Work → List ℕ → ℕ
commit_calls w side = closing_calls w.gate side + tail_calls w.is_new + 2

-- the side that a new generation goes to: the other than the chosen one, or side 0
abbrev pub other_side : Option ℕ → ℕ
other_side None = 0
other_side (Some side) = 1 - side

-- ---- what is prepared

-- where a database stands on its sides
abbrev pub position_of : DbValue → Position
position_of db = record { keep = db.keep; generation = db.generation; side = db.side; records = db.records; slot = db.slot }

-- a run is added as a record where a side is there that says how many days it keeps and has room for one
abbrev pub adds_record : Mode → DbValue → Bool
adds_record Overwrite db = false
adds_record Append db = is_some db.side && is_some db.keep && nat_lt db.records most_records

-- the generation that the work would make is above the limit
abbrev pub passes_generations : Mode → DbValue → Bool
passes_generations mode db = if adds_record mode db then false else nat_lt LIMIT (db.generation + 1)

-- a run's own summary, and all entries after it
pub record IsRecordOf (db : DbValue) (run : SummaryValue) (entries : List EntryValue) (work : Work) : Type 0 where
  pub side : db.side ≡ Some work.side
  pub gate : work.gate ≡ db.slot
  pub kind : work.is_new ≡ false
  pub body : List ℕ
  pub size : length body < 2 ^ 64
  pub tail : work.tail ≡ closed_part body
  pub spells : SpellDelta body (record { summary = run; entries = entries })

-- the whole summary after a run, which keeps this many days, and all entries
pub record IsGenerationOf (db : DbValue) (keep : ℕ) (merged : SummaryValue) (entries : List EntryValue) (work : Work) : Type 0 where
  pub side : work.side ≡ other_side db.side
  pub gate : work.gate ≡ 0
  pub kind : work.is_new ≡ true
  pub body : List ℕ
  pub size : length body < 2 ^ 64
  pub tail : work.tail ≡ closed_part body
  pub spells : SpellSnapshot body (record { generation = db.generation + 1; keep = Some keep; summary = merged; entries = entries })

-- the one or the other
abbrev pub IsWorkBy : Bool → ℕ → DbValue → SummaryValue → SummaryValue → List EntryValue → Work → Type 0
IsWorkBy true keep db run merged entries work = IsRecordOf db run entries work
IsWorkBy false keep db run merged entries work = IsGenerationOf db keep merged entries work

abbrev pub IsWorkOf : Mode → ℕ → DbValue → SummaryValue → SummaryValue → List EntryValue → Work → Type 0
IsWorkOf mode keep db run merged entries work = IsWorkBy (adds_record mode db) keep db run merged entries work

-- ---- what the work makes of a database

-- what is read after it: one record more, or a new snapshot, and of that the last days
pub data Makes (work : Work) (old : DbValue) : DbValue → Type 0 where
  by_record : {run both : SummaryValue} {entries : List EntryValue} → IsRecordOf old run entries work
      → passes (totals_plus old.summary.totals run.totals) ≡ None → IsMerged old.summary run both
      → Makes work old (with_last_days (record old { summary = both; entries = entries; records = old.records + 1; slot = old.slot + length work.tail }))
  by_generation : {keep : ℕ} {merged : SummaryValue} {entries : List EntryValue} → IsGenerationOf old keep merged entries work
      → Makes work old (with_last_days (of_snapshot work.side (length work.tail)
      (record { generation = old.generation + 1; keep = Some keep; summary = merged; entries = entries })))

-- the database after a run that keeps this many days: the whole summary and all entries, as a record more or as a new generation
abbrev pub after_run : Mode → ℕ → DbValue → SummaryValue → List EntryValue → Work → DbValue
after_run mode keep db merged entries work = if adds_record mode db
    then record db { summary = merged; entries = entries; records = db.records + 1; slot = db.slot + length work.tail }
    else of_snapshot work.side (length work.tail) (record { generation = db.generation + 1; keep = Some keep; summary = merged; entries = entries })

-- a later database: its generation is greater, or it has more records of the same
abbrev pub IsLater : DbValue → DbValue → Type 0
IsLater old new = (old.generation < new.generation) ⊎ ((new.generation ≡ old.generation) × (old.records < new.records))

-- what the whole summary of a run is: the last days of what is stored and the run together, or of the run alone
abbrev pub MergesBy : Mode → ℕ → SummaryValue → SummaryValue → SummaryValue → Type 0
MergesBy Overwrite keep stored run merged = merged ≡ trimmed keep run
MergesBy Append keep stored run merged = (both : SummaryValue) × IsMerged stored run both × (merged ≡ trimmed keep both)

-- a database that a run is added to keeps as many days as the run, unless it doesn't say how many
abbrev pub Agrees : Mode → ℕ → DbValue → Type 0
Agrees Overwrite keep db = Unit {0}
Agrees Append keep db = (db.keep ≡ None) ⊎ (db.keep ≡ Some keep)
