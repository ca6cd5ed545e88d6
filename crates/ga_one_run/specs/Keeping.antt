-- The database of a run, from its start on: what was found, and what became of it.
use Rattle.std.specs.Prelude.{◌≡◌, ◌⊎◌, ℕ, true, false, List, IfSome}
use Rattle.ga_base.specs.declared.entry.Entry.{Entry}
use Rattle.ga_disk.specs.Disk.{DiskView}
use Rattle.ga_disk.specs.Images.{Images, LeavesOnly}
use Rattle.ga_disk.specs.Sides.{Sides}
use Rattle.ga_keep.specs.RunDatabase.{IsAfter, IsNext, IsPathOf, finding_calls, keeping_calls, mode_of, uses_database}
use Rattle.ga_counters.specs.Counts.{raised}
use Rattle.ga_store.specs.Commit.{IsLater, passes_generations}
use Rattle.ga_store.specs.Commits.{AllHave, Frames, HasEither, Takes}
use Rattle.ga_store.specs.Database.{DbOf, DbValue, empty_db}
use Rattle.ga_store.specs.Database.Reading.{stored as reads_as}
use Rattle.ga_summary.specs.SummaryRows.{SummaryValue}
use Rattle.ga_words.specs.declared.settings.Settings.{Settings}

-- ---- what was found

-- the disk was opened once, in the folder that the settings name, and its sides, which stay, have this database
pub record FoundThere (s : Settings) (disk disk' : DiskView) (stored : DbValue) : Type 0 where
  pub view : disk' ≡ record disk { is_open = disk'.is_open; path = disk'.path; counts = disk'.counts }
  pub has : IfSome disk.seen (λ seen. DbOf seen (reads_as stored))
  pub opened : disk'.counts.opened ≡ raised disk.counts.opened 1
  pub path : IsPathOf s disk'
  pub faults : disk'.counts.faults ≡ disk.counts.faults
  -- it took these calls and no others
  pub calls : IfSome disk.seen (λ seen. Takes (finding_calls seen) disk disk')

-- a run that uses no database leaves the disk alone
abbrev pub FindsThere : Settings → DiskView → DiskView → DbValue → Type 0
FindsThere s disk disk' stored =
    ((uses_database s ≡ true) × FoundThere s disk disk' stored)
    ⊎ ((uses_database s ≡ false) × (disk' ≡ disk) × (stored ≡ empty_db))

-- ---- what became of it; `images` are those at the start of the run

-- at each moment each image is one that the disk had at the start, or has the database that was found or this one; now each
-- has this one, and the disk reads so
pub record KeepsSince (stored new : DbValue) (disk' : DiskView) (images images' : Images) : Type 0 where
  pub later : IsLater stored new
  pub moments : LeavesOnly images images' (λ image. images.now image ⊎ HasEither stored new image)
  pub all : AllHave images' new
  pub reads : IfSome disk'.seen (λ seen. DbOf seen (reads_as new))

-- the run was kept
pub record IsKeptSince (s : Settings) (stored : DbValue) (whole : SummaryValue) (entries : List Entry) (disk disk' : DiskView)
    (images images' : Images) : Type 0 where
  pub new : DbValue
  pub after : IsAfter whole entries s.keep new
  pub next : IsNext (mode_of s) stored new
  pub room : passes_generations (mode_of s) stored ≡ false
  pub keeps : IfSome disk.seen (λ seen. KeepsSince stored new disk' images images')
  pub faults : disk'.counts.faults ≡ disk.counts.faults
  -- it took these calls and no others
  pub calls : IfSome disk.seen (λ seen. Takes (keeping_calls (mode_of s) stored seen) disk disk')
  pub frames : Frames disk disk'

-- no side was changed; each image has the database that was found
pub record IsLeft (s : Settings) (stored : DbValue) (disk disk' : DiskView) (images images' : Images) : Type 0 where
  pub view : disk' ≡ disk
  pub moments : LeavesOnly images images' images.now
  pub all : uses_database s ≡ true → IfSome disk.seen (λ seen. AllHave images' stored)

-- a run is kept where it persists
abbrev pub KeptSince : Settings → DbValue → SummaryValue → List Entry → DiskView → DiskView → Images → Images → Type 0
KeptSince s stored whole entries disk disk' images images' =
    ((s.persist ≡ true) × IsKeptSince s stored whole entries disk disk' images images')
    ⊎ ((s.persist ≡ false) × IsLeft s stored disk disk' images images')

-- the disk failed while the run was kept: it has the one database or the other, and a steady one that reads as before has that
pub record MayKeepSince (stored new : DbValue) (disk disk' : DiskView) (images images' : Images) : Type 0 where
  pub later : IsLater stored new
  pub moments : LeavesOnly images images' (λ image. images.now image ⊎ HasEither stored new image)
  pub either : (image : Sides) → images'.now image → HasEither stored new image
  pub reads : IfSome disk'.seen (HasEither stored new)
  pub stays : disk.steady ≡ true → IfSome disk'.seen (λ seen. DbOf seen (reads_as stored) → AllHave images' stored)

pub record FailsSince (keep : ℕ) (stored : DbValue) (whole : SummaryValue) (entries : List Entry) (disk disk' : DiskView)
    (images images' : Images) : Type 0 where
  pub new : DbValue
  pub after : IsAfter whole entries keep new
  pub may : IfSome disk.seen (λ seen. MayKeepSince stored new disk disk' images images')
  pub fault : disk'.counts.faults ≡ raised disk.counts.faults 1
  pub frames : Frames disk disk'
