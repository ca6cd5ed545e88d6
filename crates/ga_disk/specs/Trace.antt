-- A trace of calls of a disk, and what it says of the views before and after it.
use Rattle.std.specs.Prelude.{◌≡◌, ℕ, ◌<◌, ◌≤◌, ◌⊎◌, true, List, Option, Some, None, is_some, Result}
use Rattle.std.specs.List.{Contains}
use Rattle.ga_counters.specs.Counts.{HasListed, Rose}
use Rattle.ga_counters.specs.declared.failed.Failed.{Failed}
use Rattle.ga_disk.specs.Disk.{DiskView, Opens, Sizes, Reads, Writes, Cuts, Syncs}

-- one call, by the clauses of its trait on the view
pub data DiskCall : DiskView → DiskView → Type 0 where
  open_call : {path : List ℕ} {old new : DiskView} {result : Result (Unit {0}) Failed} → Opens path old new result → DiskCall old new
  size_call : {side : ℕ} {old new : DiskView} {result : Result ℕ Failed} → Sizes side old new result → DiskCall old new
  read_call : {side at : ℕ} {buffer : List ℕ} {old new : DiskView} {result : Result (Unit {0}) Failed}
      → Reads side at buffer old new result → DiskCall old new
  write_call : {side at : ℕ} {piece : List ℕ} {old new : DiskView} {result : Result (Unit {0}) Failed}
      → Writes side at piece old new result → DiskCall old new
  cut_call : {side len : ℕ} {old new : DiskView} {result : Result (Unit {0}) Failed} → Cuts side len old new result → DiskCall old new
  sync_call : {old new : DiskView} {result : Result (Unit {0}) Failed} → Syncs old new result → DiskCall old new

-- calls one after the other: none, one, or those of one trace and then of another
pub data DiskTrace : DiskView → DiskView → Type 0 where
  no_disk_call : {view : DiskView} → DiskTrace view view
  one_disk_call : {old new : DiskView} → DiskCall old new → DiskTrace old new
  disk_then : {old mid new : DiskView} → DiskTrace old mid → DiskTrace mid new → DiskTrace old new

-- what no call changes, and the counts, none of which falls
pub record DiskStays (old new : DiskView) : Type 0 where
  pub stays_open : old.is_open ≡ true → new.is_open ≡ true
  pub steady : new.steady ≡ old.steady
  pub listed : new.listed ≡ old.listed
  pub bound : new.bound ≡ old.bound
  pub tells_path : is_some new.path ≡ is_some old.path
  pub calls : old.counts.calls ≤ new.counts.calls
  pub faults : old.counts.faults ≤ new.counts.faults
  pub opened : old.counts.opened ≤ new.counts.opened
  pub starved : old.counts.starved ≤ new.counts.starved

-- a call past the bound was made
abbrev pub PassesBound : Option ℕ → ℕ → Type 0
PassesBound None calls = ⊥
PassesBound (Some bound) calls = Rose bound calls

-- where these calls are listed, the count of faults rose exactly where one of them lies in the trace, a call after the
-- bound was made, or one found no memory
pub record DiskFailsAsListed (listed : List ℕ) (old new : DiskView) : Type 0 where
  pub cause : old.counts.faults < new.counts.faults
      → HasListed listed old.counts.calls new.counts.calls ⊎ PassesBound old.bound new.counts.calls
      ⊎ Rose old.counts.starved new.counts.starved
  pub at_listed : (call : ℕ) → Contains listed call → old.counts.calls < call → call ≤ new.counts.calls
      → Rose old.counts.faults new.counts.faults
  pub at_bound : (bound : ℕ) → old.bound ≡ Some bound → bound < new.counts.calls → old.counts.calls < new.counts.calls
      → Rose old.counts.faults new.counts.faults
  pub at_starved : old.counts.starved < new.counts.starved → Rose old.counts.faults new.counts.faults
