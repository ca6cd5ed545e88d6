-- What one run of the tool is: its words, plain views of the two disks and the targets before and after, and the status.
use Rattle.std.specs.Prelude.{◌≡◌, ◌≢◌, ◌⊎◌, ◌↔◌, ℕ, List}
use Rattle.ga_base.specs.declared.counts.Counter.{Counter}
use Rattle.ga_counters.specs.Counts.{Rose}
use Rattle.ga_disk.specs.Images.{LeavesOnly}
use Rattle.ga_disk.specs.Trace.{DiskTrace}
use Rattle.ga_ports.specs.Outs.{OutsView}
use Rattle.ga_ports.specs.Trace.{OutsTrace}
use Rattle.ga_targets.specs.Printing.{TakesOrStops}
use Rattle.ga_dbtool.specs.Ends.{Ends, but_errors}
use Rattle.ga_dbtool.specs.Opening.{IsUntouched}
use Rattle.ga_dbtool.specs.Outside.{DiskSeen, Outside}
use Rattle.ga_dbtool.specs.Statuses.{fault_line}
use Rattle.ga_dbtool.specs.Words.{AreBadAt, Say, Task}
use Rattle.ga_dbtool.specs.declared.status.DbStatus.{DbStatus}
use Rattle.ga_dbtool.specs.declared.status.DbStatus.TheVariants.{Done, BadWords, CounterFull, DbDamaged, NoMemory, KeepDiffers, SharedEntry}

-- no disk was touched, and no target but standard error took a byte
pub record NothingWasDone (old new : Outside) : Type 0 where
  pub first : IsUntouched old.disks.first new.disks.first
  pub second : IsUntouched old.disks.second new.disks.second
  pub outs : new.outs ≡ but_errors new.outs old.outs

-- ---- what served

abbrev pub DiskServed : DiskSeen → DiskSeen → Type 0
DiskServed old new = ¬ Rose old.view.counts.faults new.view.counts.faults

-- no call failed on standard output
abbrev pub OutputServed : OutsView → OutsView → Type 0
OutputServed old new = ¬ Rose old.stdout.faults new.stdout.faults

-- the run ended neither for damage, nor for numbers of days that differ, nor for a log that is in both, nor for a full counter
pub record HasGoodDatabases (status : DbStatus) : Type 0 where
  pub whole : (db side at : ℕ) → status ≢ DbDamaged db side at
  pub agree : (stored given : ℕ) → status ≢ KeepDiffers stored given
  pub apart : (left right : ℕ) → status ≢ SharedEntry left right
  pub counters : (which : Counter) (total : ℕ) → status ≢ CounterFull which total

-- ---- the run

pub record IsDbRun (words : List (List ℕ)) (old new : Outside) (status : DbStatus) : Type 0 where
  -- words are refused exactly where they are no form, at the place where they stop
  pub bad_words : (at : ℕ) → (status ≡ BadWords at) ↔ AreBadAt words at
  pub refused : (at : ℕ) → AreBadAt words at → NothingWasDone old new
  -- all others are a task, which ended so
  pub decided : ((at : ℕ) × AreBadAt words at) ⊎ ((task : Task) × Say words task)
  pub ends : (task : Task) → Say words task → Ends task old new status
  -- the second database is read, and never written
  pub unwritten : new.disks.second.view.seen ≡ old.disks.second.view.seen
  pub unchanged : LeavesOnly old.disks.second.images new.disks.second.images old.disks.second.images.now
  -- where all served and the databases can be merged, it is done, or memory ran out
  pub complete : (task : Task) → Say words task → DiskServed old.disks.first new.disks.first → DiskServed old.disks.second new.disks.second
      → OutputServed old.outs new.outs → HasGoodDatabases status → (status ≡ Done) ⊎ (status ≡ NoMemory)
  -- the fault line, or a proper front of it where standard error failed; nothing is said where the run is done
  pub line : TakesOrStops (fault_line status) old.outs.stderr new.outs.stderr
  pub quiet : status ≡ Done → new.outs.stderr ≡ old.outs.stderr
  -- calls led from the views before to those after, each by its own clauses
  pub first_trace : DiskTrace old.disks.first.view new.disks.first.view
  pub second_trace : DiskTrace old.disks.second.view new.disks.second.view
  pub outs_trace : OutsTrace old.outs new.outs
