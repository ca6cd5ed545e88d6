-- A database that the tool opened, and why none was found.
use Rattle.std.specs.Prelude.{◌≡◌, ◌⊎◌, ℕ, ◌+◌, true, List, Some, IfSome}
use Rattle.ga_counters.specs.Counts.{raised}
use Rattle.ga_disk.specs.Images.{LeavesOnly}
use Rattle.ga_disk.specs.Sides.{Sides}
use Rattle.ga_store.specs.Commits.{Takes}
use Rattle.ga_store.specs.Database.{DbValue}
use Rattle.ga_store.specs.Holding.{Holds, IsDamaged}
use Rattle.ga_store.specs.Store.{recovery_calls}
use Rattle.ga_store.specs.declared.fault.StoreFault.{StoreFault}
use Rattle.ga_store.specs.declared.fault.StoreFault.TheVariants.{CounterFull, Damaged, DiskFault, NoMemory}
use Rattle.ga_dbtool.specs.Outside.{DiskSeen}

-- the disk wasn't touched
pub record IsUntouched (old new : DiskSeen) : Type 0 where
  pub view : new.view ≡ old.view
  pub moment : new.images.moment ≡ old.images.moment
  pub now : (image : Sides) → new.images.now image → old.images.now image
  pub since : (t : ℕ) (image : Sides) → new.images.since t image → old.images.since t image

-- no side was changed, and at each moment each image is one that the disk had at the start
pub record OnlyLooks (old new : DiskSeen) : Type 0 where
  pub view : new.view ≡ record old.view { is_open = new.view.is_open; path = new.view.path; counts = new.view.counts }
  pub moments : LeavesOnly old.images new.images old.images.now

-- the path opened last, where it is told
abbrev pub HasPath : List ℕ → DiskSeen → Type 0
HasPath dir disk = IfSome disk.view.path (λ path. path ≡ Some dir)

-- the disk was asked to open once, and no other folder
pub record OpensOnce (dir : List ℕ) (old new : DiskSeen) : Type 0 where
  pub count : new.view.counts.opened ≡ raised old.view.counts.opened 1
  pub path : HasPath dir new ⊎ (new.view.path ≡ old.view.path)

-- the calls by which a database is found on these sides: the disk is opened, and then recovered
abbrev pub opening_calls : Sides → ℕ
opening_calls sides = 1 + recovery_calls sides

-- this database was found in a folder
pub record Opens (dir : List ℕ) (old new : DiskSeen) (db : DbValue) : Type 0 where
  pub looks : OnlyLooks old new
  pub is_open : new.view.is_open ≡ true
  pub holds : Holds new.view new.images db
  pub opened : new.view.counts.opened ≡ raised old.view.counts.opened 1
  pub path : HasPath dir new
  pub faults : new.view.counts.faults ≡ old.view.counts.faults
  -- it took these calls and no others
  pub calls : IfSome old.view.seen (λ seen. Takes (opening_calls seen) old.view new.view)

-- the sides have this damage
pub record HasDamage (dir : List ℕ) (old new : DiskSeen) (side at : ℕ) : Type 0 where
  pub damaged : IsDamaged new.view new.images side at
  pub path : HasPath dir new
  pub faults : new.view.counts.faults ≡ old.view.counts.faults
  -- it was found by these calls and no others
  pub calls : IfSome old.view.seen (λ seen. Takes (opening_calls seen) old.view new.view)

-- why, by the fault
abbrev pub IsCause : List ℕ → DiskSeen → DiskSeen → StoreFault → Type 0
IsCause dir old new DiskFault = new.view.counts.faults ≡ raised old.view.counts.faults 1
IsCause dir old new (Damaged side at) = HasDamage dir old new side at
IsCause dir old new (CounterFull which total) = ⊥
IsCause dir old new NoMemory = new.view.counts.faults ≡ old.view.counts.faults

-- nothing came of the database in a folder, for this fault, and no side was changed
pub record Misses (dir : List ℕ) (old new : DiskSeen) (fault : StoreFault) : Type 0 where
  pub looks : OnlyLooks old new
  pub opens : OpensOnce dir old new
  pub cause : IsCause dir old new fault
