-- What a run leaves of its disk, with any status: what a read gives then, and what a crash may leave at any moment since the run
-- began.
use Rattle.std.specs.Prelude.{◌≡◌, ◌⊎◌, true, IfSome}
use Rattle.ga_disk.specs.Disk.{DiskView}
use Rattle.ga_disk.specs.Images.{LeavesOnly}
use Rattle.ga_disk.specs.Sides.{Sides}
use Rattle.ga_keep.specs.RunDatabase.{IsAfter}
use Rattle.ga_line.specs.declared.setup.LineSetup.{LineSetup}
use Rattle.ga_store.specs.Commit.{IsLater}
use Rattle.ga_store.specs.Commits.{AllHave, HasEither}
use Rattle.ga_store.specs.Database.{DbOf, DbValue}
use Rattle.ga_store.specs.Database.Reading.{stored as reads_as}
use Rattle.ga_words.specs.declared.settings.Settings.{Settings}
use Rattle.ga_one_run.specs.Course.{ReachesReport}
use Rattle.ga_one_run.specs.Outside.{Outside}
use Rattle.ga_one_run.specs.declared.status.Status.{Status}
use Rattle.ga_one_run.specs.declared.status.Status.TheVariants.{Done, OutFault}

-- no side was changed, and each image is one that the disk had at the start
pub record LeavesSides (old new : Outside) : Type 0 where
  pub seen : new.disk.seen ≡ old.disk.seen
  pub moments : LeavesOnly old.images new.images old.images.now

-- each image has this database, and the disk reads so
pub record AllRead (db : DbValue) (outside : Outside) : Type 0 where
  pub all : AllHave outside.images db
  pub reads : IfSome outside.disk.seen (λ seen. DbOf seen (reads_as db))

-- a steady disk that reads as the stored database has it in each image
abbrev pub StaysIfRead : DbValue → Outside → Outside → Type 0
StaysIfRead stored old new = old.disk.steady ≡ true → IfSome new.disk.seen (λ seen. DbOf seen (reads_as stored) → AllHave new.images stored)

-- a run that is done was kept, and so was one whose report alone failed; with any other status the disk failed on the way
abbrev pub SettlesBy : Status → DbValue → DbValue → Outside → Outside → Type 0
SettlesBy Done stored after old new = AllRead after new
SettlesBy (OutFault to at) stored after old new = AllRead after new
SettlesBy _ stored after old new = StaysIfRead stored old new

-- sides that had one database: each image is one of the start, or has that database or the one after the run
pub record LeavesEither (sides : Sides) (stored after : DbValue) (old new : Outside) (status : Status) : Type 0 where
  pub had : DbOf sides (reads_as stored)
  pub rises : IsLater stored after
  -- at each moment since the start
  pub moments : LeavesOnly old.images new.images (λ image. old.images.now image ⊎ HasEither stored after image)
  -- and at the end each has the one or the other
  pub either : (image : Sides) → new.images.now image → HasEither stored after image
  pub reads : IfSome new.disk.seen (HasEither stored after)
  pub settles : SettlesBy status stored after old new

-- a run that persists, and came to its report: the database after it has its whole sum, its entries and its number of days
pub record LeavesKept (line : LineSetup) (s : Settings) (old new : Outside) (status : Status) : Type 0 where
  pub persists : s.persist ≡ true
  pub found : DiskView
  pub come : ReachesReport line s old.files new.files old.disk found
  pub after : DbValue
  pub is_after : IsAfter come.counted.whole come.counted.entries' s.keep after
  pub leaves : IfSome old.disk.seen (λ sides. LeavesEither sides come.stored after old new status)

abbrev pub Leaves : LineSetup → Settings → Outside → Outside → Status → Type 0
Leaves line s old new status = LeavesSides old new ⊎ LeavesKept line s old new status
