-- The database of a run: what the settings say of it, what the run starts from, and what it leaves.
use Rattle.std.specs.Prelude.{◌≡◌, ◌⊎◌, ℕ, ◌+◌, ◌==◌, ◌||◌, ◌&&◌, Bool, true, false, not, if◌then◌else◌, List, Option, None, Some, IfSome, map}
use Rattle.std.specs.Option.{unwrap_or}
use Rattle.ga_base.specs.declared.entry.Entry.{Entry}
use Rattle.ga_codec.specs.Values.{entry_value}
use Rattle.ga_disk.specs.Disk.{DiskView}
use Rattle.ga_disk.specs.Images.{Images, LeavesOnly}
use Rattle.ga_disk.specs.Sides.{Sides, of_side}
use Rattle.ga_resume.specs.declared.follow.Follow.{Follow}
use Rattle.ga_resume.specs.declared.follow.Follow.TheVariants.{Whole, ToEnd, ToLastLine}
use Rattle.ga_resume.specs.declared.start.Start.{Start}
use Rattle.ga_counters.specs.Counts.{raised}
use Rattle.ga_store.specs.Commit.{Agrees, IsLater, MergesBy, adds_record, closing_calls, other_side, passes_generations, position_of, tail_calls}
use Rattle.ga_store.specs.Commits.{AllHave, Frames, HasEither, Takes}
use Rattle.ga_store.specs.Database.{DbOf, DbValue, empty_db}
use Rattle.ga_store.specs.Database.Reading.{stored as reads_as}
use Rattle.ga_store.specs.Holding.{Holds}
use Rattle.ga_store.specs.Store.{recovery_calls}
use Rattle.ga_store.specs.declared.mode.Mode.{Mode}
use Rattle.ga_store.specs.declared.mode.Mode.TheVariants.{Append, Overwrite}
use Rattle.ga_store.specs.declared.position.Position.{Position}
use Rattle.ga_summary.specs.LastDays.{trimmed}
use Rattle.ga_summary.specs.SummaryRows.{SummaryValue}
use Rattle.ga_summary.specs.Sums.{IsMerged}
use Rattle.ga_words.specs.declared.settings.Settings.{Settings}
use Rattle.ga_keep.specs.declared.base.Base.{Base}

-- ---- what the settings say of it

abbrev pub uses_database : Settings → Bool
uses_database s = s.persist || s.restore

-- a run that persists leaves what follows the last line feed of a log to a later one
abbrev pub follow_of : Settings → Follow
follow_of s = if s.persist then ToLastLine else (if s.restore then ToEnd else Whole)

-- what a run counts on from: what is stored, where it restores, and else nothing
abbrev pub base_of : Settings → DbValue → DbValue
base_of s stored = if s.restore then stored else empty_db

-- how a run is kept: after what is stored, or in its place
abbrev pub mode_of : Settings → Mode
mode_of s = if s.restore then Append else Overwrite

-- the entries by which it follows its logs
abbrev pub AreBase : Settings → DbValue → List Entry → Type 0
AreBase s stored entries = map entry_value entries ≡ (base_of s stored).entries

-- what a run shows: the last days of what it counted, after what it restored
abbrev pub IsWhole : Settings → DbValue → SummaryValue → SummaryValue → Type 0
IsWhole s stored run whole = MergesBy (mode_of s) s.keep stored.summary run whole

-- a number, where it is another than this
abbrev pub other_than : ℕ → Option ℕ → Option ℕ
other_than keep None = None
other_than keep (Some number) = if number == keep then None else Some number

-- how many days what is stored keeps, where a run restores it and keeps another number of days
abbrev pub differing : Settings → DbValue → Option ℕ
differing s stored = if s.restore then other_than s.keep stored.keep else None

-- the base has what this database has
pub record IsBaseOf (db : DbValue) (base : Base) : Type 0 where
  pub summary : base.summary ≡ db.summary
  pub entries : map entry_value base.entries ≡ db.entries

-- how the base's summary grows by a run, and what is left of the run's: where the run restores, the base becomes the last days
-- of both, and the run stays; else the base stays, and of the run its last days are left
abbrev pub GrowsBy : Bool → ℕ → SummaryValue → SummaryValue → SummaryValue → SummaryValue → Type 0
GrowsBy true keep old run new run' = (both : SummaryValue) × IsMerged old run both × (new ≡ trimmed keep both) × (run' ≡ run)
GrowsBy false keep old run new run' = (new ≡ old) × (run' ≡ trimmed keep run)

-- the whole that a run shows, by what its base grew to
abbrev pub whole_of : Settings → SummaryValue → SummaryValue → SummaryValue
whole_of s base run = if s.restore then base else run

abbrev pub start_of : Settings → DbValue → Start
start_of s stored = record { follow = follow_of s; totals = (base_of s stored).summary.totals }

-- the run would need a generation above the limit
abbrev pub lacks_generation : Settings → DbValue → Bool
lacks_generation s stored = s.persist && passes_generations (mode_of s) stored

-- ---- what the run starts from

-- the disk wasn't touched
pub record IsUntouched (disk disk' : DiskView) (images images' : Images) : Type 0 where
  pub view : disk' ≡ disk
  pub moment : images'.moment ≡ images.moment
  pub now : (image : Sides) → images'.now image → images.now image
  pub since : (t : ℕ) (image : Sides) → images'.since t image → images.since t image

-- no side was changed, and no image added
pub record OnlyLooks (disk disk' : DiskView) (images images' : Images) : Type 0 where
  pub view : disk' ≡ record disk { is_open = disk'.is_open; path = disk'.path; counts = disk'.counts }
  pub moments : LeavesOnly images images' images.now

-- ---- what becomes of the disk before a run is kept

-- the path opened last, where it is told, is that of the settings
abbrev pub IsPathOf : Settings → DiskView → Type 0
IsPathOf s disk = IfSome disk.path (λ path. path ≡ Some s.db_path)

-- the disk was asked to open once, and no path but that of the settings
pub record OpensOnce (s : Settings) (disk disk' : DiskView) : Type 0 where
  pub count : disk'.counts.opened ≡ raised disk.counts.opened 1
  pub path : IsPathOf s disk' ⊎ (disk'.path ≡ disk.path)

-- the disk wasn't touched, or was opened and looked at without a fault
pub record Looked (s : Settings) (disk disk' : DiskView) (images images' : Images) : Type 0 where
  pub uses : uses_database s ≡ true
  pub looks : OnlyLooks disk disk' images images'
  pub opens : OpensOnce s disk disk'
  pub faults : disk'.counts.faults ≡ disk.counts.faults

abbrev pub LooksAtMost : Settings → DiskView → DiskView → Images → Images → Type 0
LooksAtMost s disk disk' images images' = IsUntouched disk disk' images images' ⊎ Looked s disk disk' images images'

-- the calls by which a database is found on these sides: the disk is opened, and then recovered
abbrev pub finding_calls : Sides → ℕ
finding_calls sides = 1 + recovery_calls sides

-- the disk was opened once, and holds this database
pub record Recovered (s : Settings) (disk disk' : DiskView) (images images' : Images) (stored : DbValue) : Type 0 where
  pub looks : OnlyLooks disk disk' images images'
  pub is_open : disk'.is_open ≡ true
  pub holds : Holds disk' images' stored
  pub opened : disk'.counts.opened ≡ raised disk.counts.opened 1
  pub path : IsPathOf s disk'
  pub faults : disk'.counts.faults ≡ disk.counts.faults
  -- it took these calls and no others
  pub calls : IfSome disk.seen (λ seen. Takes (finding_calls seen) disk disk')

-- the database that a run found; one that uses none leaves the disk alone
abbrev pub Finds : Settings → DiskView → DiskView → Images → Images → DbValue → Type 0
Finds s disk disk' images images' stored =
    ((uses_database s ≡ true) × Recovered s disk disk' images images' stored)
    ⊎ ((uses_database s ≡ false) × IsUntouched disk disk' images images' × (stored ≡ empty_db))

-- what the sides have for a run
abbrev pub SidesHave : Settings → Sides → DbValue → Type 0
SidesHave s sides stored =
    ((uses_database s ≡ true) × DbOf sides (reads_as stored)) ⊎ ((uses_database s ≡ false) × (stored ≡ empty_db))

-- ---- what it leaves

-- the database after a run that persists: the whole sum, all entries, and how many days it keeps
pub record IsAfter (whole : SummaryValue) (counted : List Entry) (keep : ℕ) (new : DbValue) : Type 0 where
  pub summary : new.summary ≡ whole
  pub entries : new.entries ≡ map entry_value counted
  pub number : new.keep ≡ Some keep

-- it is stored as one record more of the same generation, or as the next generation, without records
pub record IsNextBy (adds : Bool) (stored new : DbValue) : Type 0 where
  pub generation : new.generation ≡ (if adds then stored.generation else stored.generation + 1)
  pub records : new.records ≡ (if adds then stored.records + 1 else 0)

-- as a record where it restores, and a side is there that says how many days it keeps and has room for one
abbrev pub IsNext : Mode → DbValue → DbValue → Type 0
IsNext mode stored new = IsNextBy (adds_record mode stored) stored new

-- ---- the calls by which it is kept

-- a record goes to the side of its database, and a generation to the other one
abbrev pub side_for : Bool → DbValue → ℕ
side_for true stored = unwrap_or stored.side 0
side_for false stored = other_side stored.side

-- a record goes after the last one, and a generation to the start
abbrev pub gate_for : Bool → DbValue → ℕ
gate_for true stored = stored.slot
gate_for false stored = 0

-- a gate is closed, what is after it is written, and the gate is opened by a write and a sync
abbrev pub keeping_calls_by : Bool → DbValue → Sides → ℕ
keeping_calls_by adds stored sides = closing_calls (gate_for adds stored) (of_side (side_for adds stored) sides) + tail_calls (not adds) + 2

-- the calls by which a run is kept on these sides
abbrev pub keeping_calls : Mode → DbValue → Sides → ℕ
keeping_calls mode stored sides = keeping_calls_by (adds_record mode stored) stored sides

-- ---- what is kept

-- the run was kept, on a disk that tells what it reads: every image has the new database, and none has had another than it or
-- the old one
pub record Keeps (stored new : DbValue) (disk disk' : DiskView) (images images' : Images) : Type 0 where
  pub later : IsLater stored new
  pub moments : LeavesOnly images images' (HasEither stored new)
  pub all : AllHave images' new
  pub reads : IfSome disk'.seen (λ seen. DbOf seen (reads_as new))

-- the disk failed while the run was kept
pub record MayKeep (stored new : DbValue) (disk disk' : DiskView) (images images' : Images) : Type 0 where
  pub later : IsLater stored new
  pub moments : LeavesOnly images images' (HasEither stored new)
  pub either : (image : Sides) → images'.now image → HasEither stored new image
  pub reads : IfSome disk'.seen (HasEither stored new)
  -- a steady disk that reads as the old one has that alone
  pub stays : disk.steady ≡ true → IfSome disk'.seen (λ seen. DbOf seen (reads_as stored) → AllHave images' stored)

-- ---- the answers of `keep`

-- a run with this whole comes after this database, which stands there, and is what the disk holds
pub record ComesAfter (s : Settings) (stored : DbValue) (position : Position) (run whole : SummaryValue) (disk : DiskView) (images : Images) : Type 0 where
  pub stands : position_of stored ≡ position
  pub holds : Holds disk images stored
  pub agrees : Agrees (mode_of s) s.keep stored
  pub is_whole : IsWhole s stored run whole

-- the run was kept
pub record IsKept (s : Settings) (stored : DbValue) (whole : SummaryValue) (entries : List Entry) (disk disk' : DiskView) (images images' : Images) : Type 0 where
  pub new : DbValue
  pub after : IsAfter whole entries s.keep new
  pub next : IsNext (mode_of s) stored new
  pub room : passes_generations (mode_of s) stored ≡ false
  pub keeps : IfSome disk.seen (λ seen. Keeps stored new disk disk' images images')
  pub faults : disk'.counts.faults ≡ disk.counts.faults
  -- it took these calls and no others
  pub calls : IfSome disk.seen (λ seen. Takes (keeping_calls (mode_of s) stored seen) disk disk')
  pub frames : Frames disk disk'

-- a call of the disk failed while it was
pub record FailsKeeping (keep : ℕ) (stored : DbValue) (whole : SummaryValue) (entries : List Entry) (disk disk' : DiskView) (images images' : Images) : Type 0 where
  pub new : DbValue
  pub after : IsAfter whole entries keep new
  pub may : IfSome disk.seen (λ seen. MayKeep stored new disk disk' images images')
  pub fault : disk'.counts.faults ≡ raised disk.counts.faults 1
  pub frames : Frames disk disk'

-- a run was kept, where it persists; else the disk wasn't touched
abbrev pub KeptIf : Settings → DbValue → SummaryValue → List Entry → DiskView → DiskView → Images → Images → Type 0
KeptIf s stored whole entries disk disk' images images' =
    ((s.persist ≡ true) × IsKept s stored whole entries disk disk' images images')
    ⊎ ((s.persist ≡ false) × IsUntouched disk disk' images images')
