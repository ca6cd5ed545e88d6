-- What recovery says of the disk before and after it.
use Rattle.std.specs.Prelude.{◌≡◌, ℕ, ◌+◌, ◌-◌, ◌/◌, ◌^◌, Bool, true, false, length, map, Result, Ok, Err, IfOk, IfSome, IsErrOf}
use Rattle.ga_base.specs.declared.counts.Counter.{Counter}
use Rattle.ga_counters.specs.Counts.{raised}
use Rattle.ga_codec.specs.Values.{entry_value}
use Rattle.ga_disk.specs.Disk.{DiskView, calls_once}
use Rattle.ga_disk.specs.Images.{HasSide, Images, LeavesOnly, LeavesSame}
use Rattle.ga_disk.specs.Sides.{Sides}
use Rattle.ga_disk.specs.Trace.{DiskTrace}
use Rattle.ga_store.specs.Commits.{Takes}
use Rattle.ga_store.specs.Database.{DbValue}
use Rattle.ga_store.specs.Holding.{Holds, IsDamaged}
use Rattle.ga_store.specs.declared.db.Db.{Db}
use Rattle.ga_store.specs.declared.fault.StoreFault.{StoreFault}
use Rattle.ga_store.specs.declared.fault.StoreFault.TheVariants.{CounterFull, Damaged, DiskFault, NoMemory}

-- what a `Db` says
abbrev pub db_value : Db → DbValue
db_value db = record {
  summary = db.summary;
  entries = map entry_value db.entries;
  keep = db.keep;
  generation = db.generation;
  side = db.side;
  records = db.records;
  slot = db.slot;
}

-- ---- the calls of recovery

-- a call of the disk failed

abbrev pub is_disk_fault : {A : Type 0} → Result A StoreFault → Bool
is_disk_fault (Ok a) = false
is_disk_fault (Err DiskFault) = true
is_disk_fault (Err (Damaged side at)) = false
is_disk_fault (Err (CounterFull which total)) = false
is_disk_fault (Err NoMemory) = false

-- calls that change no side, of which the last alone failed, or none
pub record Looks (failed : Bool) (disk disk' : DiskView) (images images' : Images) : Type 0 where
  pub view : disk' ≡ record disk { counts = disk'.counts }
  pub opened : disk'.counts.opened ≡ disk.counts.opened
  pub fault : failed ≡ true → disk'.counts.faults ≡ raised disk.counts.faults 1
  pub no_fault : failed ≡ false → disk'.counts.faults ≡ disk.counts.faults
  pub calls : DiskTrace disk disk'
  pub leaves : LeavesSame images images'

-- the most bytes that one call reads
abbrev pub most_read : ℕ
most_read = 2 ^ 20

-- this many bytes are read by this number of calls, each of which but the last reads as many as one may
abbrev pub reads_of : ℕ → ℕ
reads_of bytes = (bytes + (most_read - 1)) / most_read

-- the calls of recovery: a sync of each side, and of each its size and its bytes
abbrev pub recovery_calls : Sides → ℕ
recovery_calls sides = 2 + (1 + reads_of (length sides.side0)) + (1 + reads_of (length sides.side1))

-- one call, a sync of a side that succeeded: from then on each image has the side as a read gives it
pub record SyncsSide (side : ℕ) (disk disk' : DiskView) (images images' : Images) : Type 0 where
  pub one_call : disk' ≡ record disk { counts = calls_once disk.counts }
  pub durable : IfSome disk.seen (HasSide side images')
  pub leaves : LeavesSame images images'

-- two calls: both sides were synced, side 0 first
pub record SyncsBoth {D : Type 0} (view_of : D → DiskView) (images_of : D → Images) (disk disk' : D) : Type 0 where
  -- the disk between the two
  pub between : D
  pub sync0 : SyncsSide 0 (view_of disk) (view_of between) (images_of disk) (images_of between)
  pub sync1 : SyncsSide 1 (view_of between) (view_of disk') (images_of between) (images_of disk')

-- each side was synced, and then asked for its size and read once, piece by piece, and no other call was made
pub record ReadsOnce {D : Type 0} (view_of : D → DiskView) (images_of : D → Images) (disk disk' : D) : Type 0 where
  -- the disk before the first read
  pub before : D
  pub syncs : SyncsBoth view_of images_of disk before
  pub looks : Looks false (view_of before) (view_of disk') (images_of before) (images_of disk')
  -- the bytes that were read, also where the disk doesn't tell them
  pub sides : Sides
  pub told : IfSome (view_of disk').seen (λ seen. seen ≡ sides)
  pub calls : Takes (recovery_calls sides) (view_of disk) (view_of disk')

-- recovery: it changes no side and adds no image
pub record Recovers {D : Type 0} (view_of : D → DiskView) (images_of : D → Images) (disk disk' : D) (result : Result Db StoreFault)
    : Type 0 where
  pub database : IfOk result (λ db. Holds (view_of disk') (images_of disk') (db_value db))
  pub damage : (side at : ℕ) → IsErrOf result (Damaged side at) → IsDamaged (view_of disk') (images_of disk') side at
  pub counters : (which : Counter) (total : ℕ) → IsErrOf result (CounterFull which total) → ⊥
  -- DiskFault is answered exactly where a call failed
  pub looks : Looks (is_disk_fault result) (view_of disk) (view_of disk') (images_of disk) (images_of disk')
  -- these calls are made before a database is answered, and before damage
  pub calls : IfOk result (λ db. ReadsOnce view_of images_of disk disk')
  pub calls_to_damage : (side at : ℕ) → IsErrOf result (Damaged side at) → ReadsOnce view_of images_of disk disk'
  -- at each moment each image is one that the disk had at the start
  pub moments : LeavesOnly (images_of disk) (images_of disk') (images_of disk).now
