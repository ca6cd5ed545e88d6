-- What a commit says of the disk before and after it.
use Rattle.std.specs.Prelude.{◌≡◌, ◌⊎◌, ℕ, true, Some, Result, OnOk, OnErr, IfErr}
use Rattle.ga_counters.specs.Counts.{raised}
use Rattle.ga_disk.specs.Disk.{DiskView}
use Rattle.ga_disk.specs.Images.{Images, LeavesOnly, OnlyImage}
use Rattle.ga_disk.specs.Sides.{Sides, of_side, with_side}
use Rattle.ga_disk.specs.Trace.{DiskTrace}
use Rattle.ga_store.specs.Commit.{IsLater, Makes, Work, commit_calls, committed}
use Rattle.ga_store.specs.Database.{DbOf, DbValue}
use Rattle.ga_store.specs.Database.Reading.{stored}
use Rattle.ga_store.specs.Holding.{Holds}
use Rattle.ga_store.specs.declared.fault.StoreFault.{StoreFault}
use Rattle.ga_store.specs.declared.fault.StoreFault.TheVariants.{DiskFault}

-- each image of the disk has this database
abbrev pub AllHave : Images → DbValue → Type 0
AllHave images db = (image : Sides) → images.now image → DbOf image (stored db)

-- an image has the old or the new database
abbrev pub HasEither : DbValue → DbValue → Sides → Type 0
HasEither old new image = DbOf image (stored old) ⊎ DbOf image (stored new)

-- the work was prepared from the database that the disk holds
pub record IsReady (work : Work) (disk : DiskView) (images : Images) : Type 0 where
  pub old : DbValue
  pub new : DbValue
  pub holds : Holds disk images old
  pub makes : Makes work old new

-- both sides after the whole work
abbrev pub after_work : Work → Sides → Sides
after_work work sides = with_side work.side (committed work (of_side work.side sides)) sides

-- this many calls of the disk
abbrev pub Takes : ℕ → DiskView → DiskView → Type 0
Takes n disk disk' = disk'.counts.calls ≡ raised disk.counts.calls n

-- a commit from one database to another, of a disk that reads so before
pub record CommitsFrom (old new : DbValue) (work : Work) (sides : Sides) (disk disk' : DiskView) (images images' : Images)
    (result : Result (Unit {0}) StoreFault) : Type 0 where
  pub later : IsLater old new
  -- at each moment each image has the old or the new database
  pub moments : LeavesOnly images images' (HasEither old new)
  -- after Ok each has the new one, and is what a read gives: the work is there, and nothing else is changed
  pub done : OnOk result (AllHave images' new)
  pub written : OnOk result ((disk'.seen ≡ Some (after_work work sides)) × OnlyImage images' (after_work work sides))
  -- it makes these calls and no others
  pub calls : OnOk result (Takes (commit_calls work (of_side work.side sides)) disk disk')
  -- so has what a read gives
  pub reads : (sides' : Sides) → disk'.seen ≡ Some sides' → HasEither old new sides'
  -- after a fault each has the one or the other
  pub either : OnErr result ((image : Sides) → images'.now image → HasEither old new image)
  -- after a fault of a steady disk that reads as the old one each has the old one
  pub stays : disk.steady ≡ true → (sides' : Sides) → disk'.seen ≡ Some sides' → DbOf sides' (stored old)
      → OnErr result (AllHave images' old)

-- calls that change no more of what the disk is to the program than what a read gives and the counts, and open nothing
pub record Frames (disk disk' : DiskView) : Type 0 where
  pub same : disk' ≡ record disk { seen = disk'.seen; counts = disk'.counts }
  pub opened : disk'.counts.opened ≡ disk.counts.opened

pub record Commits (work : Work) (disk disk' : DiskView) (images images' : Images) (result : Result (Unit {0}) StoreFault)
    : Type 0 where
  pub told : (sides : Sides) → disk.seen ≡ Some sides → (old new : DbValue) → DbOf sides (stored old) → Makes work old new
      → CommitsFrom old new work sides disk disk' images images' result
  -- it fails for the disk alone, exactly where one call failed, and takes no memory
  pub no_fault : OnOk result (disk'.counts.faults ≡ disk.counts.faults)
  pub fault : OnErr result (disk'.counts.faults ≡ raised disk.counts.faults 1)
  pub cause : IfErr result (λ fault. fault ≡ DiskFault)
  pub frames : Frames disk disk'
  pub calls : DiskTrace disk disk'
