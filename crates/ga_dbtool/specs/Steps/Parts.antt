-- How the parts of a run of the tool ended, before its fault line is written.
use Rattle.std.specs.Prelude.{◌≡◌, ◌⊎◌, ℕ, ◌++◌, false, List, [], Some, None}
use Rattle.ga_base.specs.Totals.{totals_plus}
use Rattle.ga_base.specs.declared.counts.Counter.{Counter}
use Rattle.ga_ports.specs.Outs.{OutsView}
use Rattle.ga_ports.specs.declared.outs.To.TheVariants.{Stdout}
use Rattle.ga_store.specs.Commit.{Makes, Work, after_run, passes_generations}
use Rattle.ga_store.specs.Database.{DbValue}
use Rattle.ga_store.specs.declared.fault.StoreFault.{StoreFault}
use Rattle.ga_store.specs.declared.fault.StoreFault.TheVariants.{CounterFull as StoreFull, Damaged, DiskFault as StoreFailed, NoMemory as StoreNoMemory}
use Rattle.ga_store.specs.declared.mode.Mode.TheVariants.{Append}
use Rattle.ga_summary.specs.LastDays.{trimmed}
use Rattle.ga_summary.specs.Limits.{passes}
use Rattle.ga_summary.specs.SummaryRows.{SummaryValue}
use Rattle.ga_summary.specs.Sums.{IsMerged}
use Rattle.ga_summary.specs.declared.fault.MergeFault.{MergeFault}
use Rattle.ga_summary.specs.declared.fault.MergeFault.TheVariants.{CounterFull as SumFull, NoMemory as MergeNoMemory}
use Rattle.ga_dbtool.specs.Ends.{EndsLooking, EndsMerging, OpenBoth, Prints}
use Rattle.ga_dbtool.specs.Merged.{Agree, CanMerge, Differ, Overflow, ShareFirst, keep_of}
use Rattle.ga_dbtool.specs.Opening.{IsUntouched, Misses, Opens}
use Rattle.ga_dbtool.specs.Outside.{DiskSeen, Disks}
use Rattle.ga_dbtool.specs.Texts.{check_text}
use Rattle.ga_dbtool.specs.declared.status.DbStatus.{DbStatus}
use Rattle.ga_dbtool.specs.declared.status.DbStatus.TheVariants.{Done, OutFault, DiskFault, CounterFull, DbDamaged, NoMemory, KeepDiffers, SharedEntry}

-- the status of a run that ends for a fault of this one of its databases
abbrev pub status_of_store : ℕ → StoreFault → DbStatus
status_of_store db StoreFailed = DiskFault db
status_of_store db (Damaged side at) = DbDamaged db side at
status_of_store db (StoreFull which total) = CounterFull which total
status_of_store db StoreNoMemory = NoMemory

-- and for a fault of merging
abbrev pub status_of_merge : MergeFault → DbStatus
status_of_merge (SumFull which total) = CounterFull which total
status_of_merge MergeNoMemory = NoMemory

-- nothing came of this one of the databases
abbrev pub MissesAt : ℕ → List ℕ → DiskSeen → DiskSeen → DbStatus → Type 0
MissesAt db dir old new status = (fault : StoreFault) × (status ≡ status_of_store db fault) × Misses dir old new fault

-- both databases were found, and can be merged
pub record OpensBoth (dir other : List ℕ) (old new : Disks) (left right : DbValue) : Type 0 where
  pub opened : OpenBoth dir other old new left right
  pub can : CanMerge left right

-- why they weren't
pub data StopsOpening (dir other : List ℕ) (old new : Disks) (status : DbStatus) : Type 0 where
  first_missed : MissesAt 0 dir old.first new.first status → IsUntouched old.second new.second → StopsOpening dir other old new status
  second_missed : (left : DbValue) → Opens dir old.first new.first left → MissesAt 1 other old.second new.second status
      → StopsOpening dir other old new status
  differ : (stored given : ℕ) → status ≡ KeepDiffers stored given → (left right : DbValue) → OpenBoth dir other old new left right
      → Differ left right stored given → StopsOpening dir other old new status
  share : (place place' : ℕ) → status ≡ SharedEntry place place' → (left right : DbValue) → OpenBoth dir other old new left right
      → Agree left right → ShareFirst left.entries right.entries place place' → StopsOpening dir other old new status

-- the last days of two summaries together
abbrev pub MergesLastDays : ℕ → SummaryValue → SummaryValue → SummaryValue → Type 0
MergesLastDays keep left right whole = (both : SummaryValue) × IsMerged left right both × (whole ≡ trimmed keep both)

-- why two summaries aren't put together: memory ran out, or a counter would pass its limit
abbrev pub StopsJoining : SummaryValue → SummaryValue → DbStatus → Type 0
StopsJoining left right status = (status ≡ NoMemory)
    ⊎ ((which : Counter) × (total : ℕ) × (status ≡ CounterFull which total) × (passes (totals_plus left.totals right.totals) ≡ Some (which, total)))

-- the work of a merge, and what is said of the database that it makes
pub record IsPrepared (left right : DbValue) (work : Work) (text : List ℕ) : Type 0 where
  pub whole : SummaryValue
  pub both : MergesLastDays (keep_of left right) left.summary right.summary whole
  pub fits : passes (totals_plus left.summary.totals right.summary.totals) ≡ None
  pub room : passes_generations Append left ≡ false
  pub makes : Makes work left (after_run Append (keep_of left right) left whole (left.entries ++ right.entries) work)
  pub says : text ≡ check_text (after_run Append (keep_of left right) left whole (left.entries ++ right.entries) work)

-- why it wasn't prepared: memory ran out, or a counter would pass its limit
abbrev pub StopsPreparing : DbValue → DbValue → DbStatus → Type 0
StopsPreparing left right status = (status ≡ NoMemory)
    ⊎ ((which : Counter) × (total : ℕ) × (status ≡ CounterFull which total) × Overflow left right which total)

-- ---- tasks

-- a task on DIR alone, which says this of its database
pub record EndsOn (dir : List ℕ) (say : DbValue → List ℕ) (old new : DiskSeen) (outs outs' : OutsView) (status : DbStatus) : Type 0 where
  pub text : List ℕ
  pub ends : EndsLooking dir say text old new status
  pub prints : Prints status text outs outs'

-- the text was printed, or standard output failed on the way
pub data Shows (text : List ℕ) (old new : OutsView) : DbStatus → Type 0 where
  all : Prints Done text old new → Shows text old new Done
  front : {at : ℕ} → Prints (OutFault Stdout at) text old new → Shows text old new (OutFault Stdout at)

-- why databases weren't merged; nothing was printed
abbrev pub StopsMerging : List ℕ → List ℕ → Disks → Disks → DbStatus → Type 0
StopsMerging dir other old new Done = ⊥
StopsMerging dir other old new (OutFault to at) = ⊥
StopsMerging dir other old new status = EndsMerging dir other [] old new status
