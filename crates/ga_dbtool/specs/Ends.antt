-- How a run of the tool ended, by its status: what was found, merged and printed before that.
use Rattle.std.specs.Prelude.{◌≡◌, ◌⊎◌, ℕ, ◌<◌, true, false, List, length, take, Some, None, IfSome}
use Rattle.ga_base.specs.Totals.{totals_plus}
use Rattle.ga_counters.specs.Counts.{raised}
use Rattle.ga_disk.specs.Disk.{DiskView}
use Rattle.ga_disk.specs.Images.{LeavesOnly}
use Rattle.ga_disk.specs.Sides.{Sides}
use Rattle.ga_ports.specs.Outs.{OutsView, fails_once, takes}
use Rattle.ga_ports.specs.declared.outs.To.TheVariants.{Stdout}
use Rattle.ga_print.specs.Keys.{keys_text}
use Rattle.ga_store.specs.Commit.{IsLater, passes_generations}
use Rattle.ga_store.specs.Commits.{AllHave, Frames, HasEither, Takes}
use Rattle.ga_store.specs.Database.{DbOf, DbValue}
use Rattle.ga_store.specs.Database.Reading.{stored as reads_as}
use Rattle.ga_base.specs.declared.counts.Counter.{Counter}
use Rattle.ga_store.specs.declared.fault.StoreFault.{StoreFault}
use Rattle.ga_store.specs.declared.fault.StoreFault.TheVariants.{Damaged, DiskFault as StoreFailed}
use Rattle.ga_store.specs.declared.mode.Mode.TheVariants.{Append}
use Rattle.ga_summary.specs.Limits.{passes}
use Rattle.ga_dbtool.specs.Merged.{Agree, CanMerge, ComesAfter, Differ, IsMergedDb, Overflow, ShareFirst}
use Rattle.ga_dbtool.specs.Opening.{IsUntouched, Misses, OnlyLooks, Opens, OpensOnce, opening_calls}
use Rattle.ga_dbtool.specs.Outside.{DiskSeen, Disks, Outside}
use Rattle.ga_dbtool.specs.Texts.{check_text}
use Rattle.ga_dbtool.specs.Words.{Task}
use Rattle.ga_dbtool.specs.Words.Task.{checking, dumping, merging}
use Rattle.ga_dbtool.specs.declared.status.DbStatus.{DbStatus}
use Rattle.ga_dbtool.specs.declared.status.DbStatus.TheVariants.{Done, BadWords, DiskFault, OutFault, CounterFull, DbDamaged, NoMemory, KeepDiffers, SharedEntry}

-- ---- the disks, before anything is written

-- the disk wasn't touched, or was opened and looked at without a fault
abbrev pub LooksAtMost : List ℕ → DiskSeen → DiskSeen → Type 0
LooksAtMost dir old new = IsUntouched old new
    ⊎ (OnlyLooks old new × OpensOnce dir old new × (new.view.counts.faults ≡ old.view.counts.faults))

-- both databases were found
pub record OpenBoth (dir other : List ℕ) (old new : Disks) (left right : DbValue) : Type 0 where
  pub first : Opens dir old.first new.first left
  pub second : Opens other old.second new.second right

-- ---- the disk of DIR, from the start of the run to a commit

-- the disk was opened once, in this folder, and its sides, which stay, have this database
pub record FoundThere (dir : List ℕ) (old found : DiskView) (db : DbValue) : Type 0 where
  pub view : found ≡ record old { is_open = found.is_open; path = found.path; counts = found.counts }
  pub has : IfSome old.seen (λ seen. DbOf seen (reads_as db))
  pub opened : found.counts.opened ≡ raised old.counts.opened 1
  pub path : IfSome found.path (λ path. path ≡ Some dir)
  pub faults : found.counts.faults ≡ old.counts.faults
  pub calls : IfSome old.seen (λ seen. Takes (opening_calls seen) old found)

-- at each moment since the start each image is one that the disk had then, or has the old database or the new one
abbrev pub LeavesEither : DbValue → DbValue → DiskSeen → DiskSeen → Type 0
LeavesEither left new old now = LeavesOnly old.images now.images (λ image. old.images.now image ⊎ HasEither left new image)

-- now each image has the new one, and the disk reads so
pub record KeepsNew (left new : DbValue) (old now : DiskSeen) : Type 0 where
  pub later : IsLater left new
  pub moments : LeavesEither left new old now
  pub all : AllHave now.images new
  pub reads : IfSome now.view.seen (λ seen. DbOf seen (reads_as new))

-- the disk failed on the way: it has the one or the other, and a steady one that reads as before has that
pub record MayKeepNew (left new : DbValue) (found : DiskView) (old now : DiskSeen) : Type 0 where
  pub later : IsLater left new
  pub moments : LeavesEither left new old now
  pub either : (image : Sides) → now.images.now image → HasEither left new image
  pub reads : IfSome now.view.seen (HasEither left new)
  pub stays : found.steady ≡ true → IfSome now.view.seen (λ seen. DbOf seen (reads_as left) → AllHave now.images left)

-- ---- `merge`, up to its commit

pub record ComesToCommit (dir other : List ℕ) (old new : Disks) (found : DiskView) (left right merged : DbValue) : Type 0 where
  pub first : FoundThere dir old.first.view found left
  pub second : Opens other old.second new.second right
  pub can : CanMerge left right
  pub fits : passes (totals_plus left.summary.totals right.summary.totals) ≡ None
  pub room : passes_generations Append left ≡ false
  pub makes : IsMergedDb left right merged
  pub after : ComesAfter left merged

-- the merged database was kept in DIR, and this is said of it
pub record Merges (dir other text : List ℕ) (old new : Disks) : Type 0 where
  pub found : DiskView
  pub left : DbValue
  pub right : DbValue
  pub merged : DbValue
  pub comes : ComesToCommit dir other old new found left right merged
  pub keeps : IfSome found.seen (λ seen. KeepsNew left merged old.first new.first)
  pub faults : new.first.view.counts.faults ≡ found.counts.faults
  pub frames : Frames found new.first.view
  pub says : text ≡ check_text merged

-- a call of DIR's disk failed while it was kept
pub record FailsAtCommit (dir other : List ℕ) (old new : Disks) : Type 0 where
  pub found : DiskView
  pub left : DbValue
  pub right : DbValue
  pub merged : DbValue
  pub comes : ComesToCommit dir other old new found left right merged
  pub may : IfSome found.seen (λ seen. MayKeepNew left merged found old.first new.first)
  pub fault : new.first.view.counts.faults ≡ raised found.counts.faults 1
  pub frames : Frames found new.first.view

-- ---- why databases weren't merged

-- nothing came of the first, or of the second, once the first was found
abbrev pub MissesEither : List ℕ → List ℕ → Disks → Disks → StoreFault → ℕ → Type 0
MissesEither dir other old new fault db =
    ((db ≡ 0) × Misses dir old.first new.first fault × IsUntouched old.second new.second)
    ⊎ ((db ≡ 1) × ((left : DbValue) × Opens dir old.first new.first left) × Misses other old.second new.second fault)

-- they keep different numbers of days
pub record FindsOther (dir other : List ℕ) (old new : Disks) (stored given : ℕ) : Type 0 where
  pub left : DbValue
  pub right : DbValue
  pub opened : OpenBoth dir other old new left right
  pub differ : Differ left right stored given

-- a log is in both
pub record FindsShared (dir other : List ℕ) (old new : Disks) (place place' : ℕ) : Type 0 where
  pub left : DbValue
  pub right : DbValue
  pub opened : OpenBoth dir other old new left right
  pub agree : Agree left right
  pub share : ShareFirst left.entries right.entries place place'

-- a counter would pass its limit
pub record FindsFull (dir other : List ℕ) (old new : Disks) (which : Counter) (total : ℕ) : Type 0 where
  pub left : DbValue
  pub right : DbValue
  pub opened : OpenBoth dir other old new left right
  pub can : CanMerge left right
  pub overflow : Overflow left right which total

-- ---- by status

-- a task on DIR alone, which says this of its database; the other disk isn't touched
abbrev pub EndsLooking : List ℕ → (DbValue → List ℕ) → List ℕ → DiskSeen → DiskSeen → DbStatus → Type 0
EndsLooking dir say text old new Done = (db : DbValue) × Opens dir old new db × (text ≡ say db)
EndsLooking dir say text old new (OutFault to at) = (db : DbValue) × Opens dir old new db × (text ≡ say db)
EndsLooking dir say text old new (DiskFault db) = (db ≡ 0) × Misses dir old new StoreFailed
EndsLooking dir say text old new (DbDamaged db side at) = (db ≡ 0) × Misses dir old new (Damaged side at)
EndsLooking dir say text old new NoMemory = LooksAtMost dir old new
EndsLooking dir say text old new _ = ⊥

abbrev pub EndsMerging : List ℕ → List ℕ → List ℕ → Disks → Disks → DbStatus → Type 0
EndsMerging dir other text old new Done = Merges dir other text old new
EndsMerging dir other text old new (OutFault to at) = Merges dir other text old new
EndsMerging dir other text old new (DiskFault db) =
    MissesEither dir other old new StoreFailed db ⊎ ((db ≡ 0) × FailsAtCommit dir other old new)
EndsMerging dir other text old new (DbDamaged db side at) = MissesEither dir other old new (Damaged side at) db
EndsMerging dir other text old new (KeepDiffers stored given) = FindsOther dir other old new stored given
EndsMerging dir other text old new (SharedEntry left right) = FindsShared dir other old new left right
EndsMerging dir other text old new (CounterFull which total) = FindsFull dir other old new which total
EndsMerging dir other text old new NoMemory = LooksAtMost dir old.first new.first × LooksAtMost other old.second new.second
EndsMerging dir other text old new (BadWords at) = ⊥

-- what a task did, and the text that it came to, where it came to one
abbrev pub EndsBy : Task → List ℕ → Disks → Disks → DbStatus → Type 0
EndsBy (checking dir) text old new status = EndsLooking dir check_text text old.first new.first status × IsUntouched old.second new.second
EndsBy (dumping dir) text old new status =
    EndsLooking dir (λ db. keys_text db.summary) text old.first new.first status × IsUntouched old.second new.second
EndsBy (merging dir other) text old new status = EndsMerging dir other text old new status

-- ---- what was printed

-- the targets of one view, with what standard error took and the numbers of calls of another
abbrev pub but_errors : OutsView → OutsView → OutsView
but_errors new v = record v { stderr = new.stderr; calls = new.calls; starved = new.starved }

-- standard output took the text, or the front of it up to a place, and failed there; it takes nothing where the text isn't printed
abbrev pub Prints : DbStatus → List ℕ → OutsView → OutsView → Type 0
Prints Done text old new = new ≡ but_errors new (record old { stdout = takes text old.stdout })
Prints (OutFault to at) text old new =
    (to ≡ Stdout) × (at < length text) × (new ≡ but_errors new (record old { stdout = fails_once (takes (take at text) old.stdout) }))
Prints _ text old new = new ≡ but_errors new old

pub record Ends (task : Task) (old new : Outside) (status : DbStatus) : Type 0 where
  pub text : List ℕ
  pub ends : EndsBy task text old.disks new.disks status
  pub prints : Prints status text old.outs new.outs
