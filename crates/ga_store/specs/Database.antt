-- The database of two sides.
use Rattle.std.specs.Prelude.{◌≡◌, ℕ, ◌+◌, ◌<◌, true, false, List, [], length, Option, Some, None, unwrap_or}
use Rattle.ga_summary.specs.LastDays.{trimmed}
use Rattle.ga_summary.specs.Limits.{passes}
use Rattle.ga_summary.specs.SummaryRows.{SummaryValue}
use Rattle.ga_base.specs.Totals.{totals_plus}
use Rattle.ga_summary.specs.Sums.{IsMerged}
use Rattle.ga_codec.specs.Shapes.{SpellDelta, SpellSnapshot}
use Rattle.ga_codec.specs.Values.{DeltaValue, EntryValue, SnapshotValue}
use Rattle.ga_disk.specs.Sides.{Sides}
use Rattle.ga_store.specs.SideParts.{IsPartAt, is_open_at, part_bytes}

pub record DbValue : Type 0 where
  pub summary : SummaryValue
  pub entries : List EntryValue
  -- how many of the last days it keeps, 0 for all; None where nothing is stored, and after a snapshot of version 1, which doesn't say it
  pub keep : Option ℕ
  -- the number of the snapshot, 0 where nothing is stored
  pub generation : ℕ
  -- the side that was chosen; None where nothing is stored
  pub side : Option ℕ
  -- the number of run records after its snapshot
  pub records : ℕ
  -- the place of the first closed gate after them
  pub slot : ℕ

-- what two sides say: a database, or damage at a place of a side
pub data Reading : Type 0 where
  stored : DbValue → Reading
  damaged : ℕ → ℕ → Reading

-- ---- one side

-- after the open gate at its start stands a part with this snapshot, and the next gate at this place
pub record HasSnapshot (side : List ℕ) (snapshot : SnapshotValue) (next : ℕ) : Type 0 where
  pub gate : is_open_at side 0 ≡ true
  pub body : List ℕ
  pub part : IsPartAt side 1 body
  pub spells : SpellSnapshot body snapshot
  pub behind : next ≡ 1 + length (part_bytes body)

-- the gate at its start is open, and no part with a snapshot is there
pub record LacksSnapshot (side : List ℕ) : Type 0 where
  pub gate : is_open_at side 0 ≡ true
  pub none : (body : List ℕ) (snapshot : SnapshotValue) → IsPartAt side 1 body → SpellSnapshot body snapshot → ⊥

-- the run record after the open gate at the slot takes the database on; its totals pass no limit
pub record TakesOn (side : List ℕ) (old new : DbValue) : Type 0 where
  pub gate : is_open_at side old.slot ≡ true
  pub body : List ℕ
  pub delta : DeltaValue
  pub part : IsPartAt side (old.slot + 1) body
  pub spells : SpellDelta body delta
  pub limits : passes (totals_plus old.summary.totals delta.summary.totals) ≡ None
  pub merged : IsMerged old.summary delta.summary new.summary
  pub others : new ≡ record old {
    summary = new.summary;
    entries = delta.entries;
    records = old.records + 1;
    slot = old.slot + 1 + length (part_bytes body);
  }

-- a database with its last days alone, as many as it keeps
abbrev pub with_last_days : DbValue → DbValue
with_last_days db = record db { summary = trimmed (unwrap_or db.keep 0) db.summary }

-- from a database on, as far as it was read of the side with this number, to what the side says: its records are those
-- after open gates up to the first closed one, and what follows that is ignored. What they say together is trimmed once, at
-- the end
pub data ReadsOn (number : ℕ) (side : List ℕ) : DbValue → Reading → Type 0 where
  ends : {db : DbValue} → is_open_at side db.slot ≡ false → ReadsOn number side db (stored (with_last_days db))
  goes_on : {old new : DbValue} {reading : Reading} → TakesOn side old new → ReadsOn number side new reading → ReadsOn number side old reading
  breaks : {db : DbValue} → is_open_at side db.slot ≡ true → ((new : DbValue) → TakesOn side db new → ⊥)
      → ReadsOn number side db (damaged number (db.slot + 1))

-- ---- both sides

abbrev pub no_summary : SummaryValue
no_summary = record {
  totals = record { lines = 0; failed = 0; excluded = 0; hits = 0; bytes = 0; micros = 0 };
  rows = [];
}

-- nothing is stored
abbrev pub empty_db : DbValue
empty_db = record { summary = no_summary; entries = []; keep = None; generation = 0; side = None; records = 0; slot = 0 }

-- the database of a snapshot, before the records after it
abbrev pub of_snapshot : ℕ → ℕ → SnapshotValue → DbValue
of_snapshot number next s = record {
  summary = s.summary;
  entries = s.entries;
  keep = s.keep;
  generation = s.generation;
  side = Some number;
  records = 0;
  slot = next;
}

-- the other side isn't looked at, or has an older generation
pub data YieldsTo (generation : ℕ) (other : List ℕ) : Type 0 where
  closed : is_open_at other 0 ≡ false → YieldsTo generation other
  older : {snapshot : SnapshotValue} {next : ℕ} → HasSnapshot other snapshot next → snapshot.generation < generation → YieldsTo generation other

-- a side that isn't damaged as far as its first gate and its snapshot
pub data IsWhole (side : List ℕ) : Type 0 where
  unused : is_open_at side 0 ≡ false → IsWhole side
  used : {snapshot : SnapshotValue} {next : ℕ} → HasSnapshot side snapshot next → IsWhole side

-- what two sides say, by five rules
pub data DbOf (sides : Sides) : Reading → Type 0 where
  -- with both gates closed the database is empty
  nothing : is_open_at sides.side0 0 ≡ false → is_open_at sides.side1 0 ≡ false → DbOf sides (stored empty_db)
  -- a side with an open gate and no snapshot is damaged, side 0 before side 1
  lacks0 : LacksSnapshot sides.side0 → DbOf sides (damaged 0 1)
  lacks1 : IsWhole sides.side0 → LacksSnapshot sides.side1 → DbOf sides (damaged 1 1)
  -- two snapshots of one generation are damage of side 1
  equal : {first second : SnapshotValue} {next0 next1 : ℕ} → HasSnapshot sides.side0 first next0 → HasSnapshot sides.side1 second next1
      → first.generation ≡ second.generation → DbOf sides (damaged 1 1)
  -- else the side with the later generation is read on
  chosen0 : {snapshot : SnapshotValue} {next : ℕ} {reading : Reading} → HasSnapshot sides.side0 snapshot next
      → YieldsTo snapshot.generation sides.side1 → ReadsOn 0 sides.side0 (of_snapshot 0 next snapshot) reading → DbOf sides reading
  chosen1 : {snapshot : SnapshotValue} {next : ℕ} {reading : Reading} → HasSnapshot sides.side1 snapshot next
      → YieldsTo snapshot.generation sides.side0 → ReadsOn 1 sides.side1 (of_snapshot 1 next snapshot) reading → DbOf sides reading
