-- A trace of calls of a form of `Files` or of `Outs`, and what it says of the views before and after it.
use Rattle.std.specs.Prelude.{◌≡◌, ℕ, ◌<◌, ◌≤◌, ◌⊎◌, true, List, Option, Some, None, Result}
use Rattle.std.specs.List.{Contains}
use Rattle.ga_counters.specs.Counts.{HasListed, Rose}
use Rattle.ga_ports.specs.Files.{FilesView, Opens, Sizes, Reads, OpenFailsIfListed, FailsIfListed, ReadsIfListed}
use Rattle.ga_ports.specs.Outs.{TargetView, OutsView, target, Creates, Writes, CreatesIfListed, WritesIfListed, is_full}
use Rattle.ga_counters.specs.declared.failed.Failed.{Failed}
use Rattle.ga_ports.specs.declared.outs.To.{To}

-- one call of `Files`, by the clauses of its trait
pub data FilesCall : FilesView → FilesView → Type 0 where
  open_call : {name : List ℕ} {old new : FilesView} {result : Result (Unit {0}) Failed}
      → Opens name old new result → OpenFailsIfListed name old result → FilesCall old new
  size_call : {old new : FilesView} {result : Result ℕ Failed}
      → Sizes old new result → FailsIfListed old result → FilesCall old new
  read_call : {at : ℕ} {buffer : List ℕ} {old new : FilesView} {result : Result ℕ Failed}
      → Reads at buffer old new result → ReadsIfListed at buffer old result → FilesCall old new

-- calls of `Files`, one after the other: none, one, or those of one trace and then of another
pub data FilesTrace : FilesView → FilesView → Type 0 where
  no_files_call : {view : FilesView} → FilesTrace view view
  one_files_call : {old new : FilesView} → FilesCall old new → FilesTrace old new
  files_then : {old mid new : FilesView} → FilesTrace old mid → FilesTrace mid new → FilesTrace old new

-- one call of `Outs`, by the clauses of its trait
pub data OutsCall : OutsView → OutsView → Type 0 where
  create_call : {name : List ℕ} {old new : OutsView} {result : Result (Unit {0}) Failed}
      → Creates name old new result → CreatesIfListed old new result → OutsCall old new
  write_call : {to : To} {piece : List ℕ} {old new : OutsView} {result : Result ℕ Failed}
      → Writes to piece old new result → WritesIfListed to piece old new result → OutsCall old new

-- calls of `Outs`, one after the other
pub data OutsTrace : OutsView → OutsView → Type 0 where
  no_outs_call : {view : OutsView} → OutsTrace view view
  one_outs_call : {old new : OutsView} → OutsCall old new → OutsTrace old new
  outs_then : {old mid new : OutsView} → OutsTrace old mid → OutsTrace mid new → OutsTrace old new

-- what no call of `Files` changes, and the counts, none of which falls
pub record FilesStay (old new : FilesView) : Type 0 where
  pub contents : new.contents ≡ old.contents
  pub listed : new.listed ≡ old.listed
  pub calls : old.counts.calls ≤ new.counts.calls
  pub faults : old.counts.faults ≤ new.counts.faults
  pub given : old.counts.given ≤ new.counts.given
  pub sizes : old.counts.sizes ≤ new.counts.sizes
  pub asked : old.counts.asked ≤ new.counts.asked
  pub shorts : old.counts.shorts ≤ new.counts.shorts
  pub absent : old.counts.absent ≤ new.counts.absent

-- where these calls are listed, the count of faults rose exactly where one of them lies in the trace or a name was absent
pub record FilesFailAsListed (listed : List ℕ) (old new : FilesView) : Type 0 where
  pub cause : old.counts.faults < new.counts.faults
      → HasListed listed old.counts.calls new.counts.calls ⊎ Rose old.counts.absent new.counts.absent
  pub at_listed : (call : ℕ) → Contains listed call → old.counts.calls < call → call ≤ new.counts.calls
      → Rose old.counts.faults new.counts.faults
  pub at_absent : old.counts.absent < new.counts.absent → Rose old.counts.faults new.counts.faults

-- a room only narrows, and no call gives or takes one
abbrev pub Narrows : Option ℕ → Option ℕ → Type 0
Narrows None None = Unit {0}
Narrows None (Some left) = ⊥
Narrows (Some room) None = ⊥
Narrows (Some room) (Some left) = left ≤ room

-- what no call changes of a target, and its counts, none of which falls
pub record TargetStays (old new : TargetView) : Type 0 where
  pub taken : old.taken ≤ new.taken
  pub faults : old.faults ≤ new.faults
  pub room : Narrows old.room new.room

-- the same for all targets
pub record OutsStay (old new : OutsView) : Type 0 where
  pub listed : new.listed ≡ old.listed
  pub calls : old.calls ≤ new.calls
  pub starved : old.starved ≤ new.starved
  pub made : old.made ≤ new.made
  pub targets : (to : To) → TargetStays (target to old) (target to new)

-- the faults of some target rose
abbrev pub SomeTargetRose : OutsView → OutsView → Type 0
SomeTargetRose old new = (to : To) × Rose (target to old).faults (target to new).faults

-- where these calls are listed, a target's faults rose only where one of them lies in the trace, its room is used up or
-- a call found no memory; and some target's faults rose where one is listed or found no memory
pub record OutsFailAsListed (listed : List ℕ) (old new : OutsView) : Type 0 where
  pub cause : (to : To) → (target to old).faults < (target to new).faults
      → HasListed listed old.calls new.calls ⊎ (is_full (target to new).room ≡ true) ⊎ Rose old.starved new.starved
  pub at_listed : (call : ℕ) → Contains listed call → old.calls < call → call ≤ new.calls → SomeTargetRose old new
  pub at_starved : old.starved < new.starved → SomeTargetRose old new
