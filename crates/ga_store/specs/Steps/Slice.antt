-- One slice of a side is read.
use Rattle.std.specs.Prelude.{◌≡◌, ℕ, ◌≤◌, List, ◌++◌, length, take, drop, Result, OnOk, IfSome}
use Rattle.ga_counters.specs.Counts.{raised}
use Rattle.ga_disk.specs.Disk.{DiskView}
use Rattle.ga_disk.specs.Sides.{of_side}
use Rattle.ga_store.specs.declared.fault.StoreFault.{StoreFault}

-- this many bytes of a side came behind those that a buffer had, by one call
pub record Gets (side from count : ℕ) (disk disk' : DiskView) (old new : List ℕ) : Type 0 where
  pub slice : List ℕ
  pub long : length slice ≡ count
  pub behind : new ≡ old ++ slice
  pub told : IfSome disk.seen (λ seen. slice ≡ take count (drop from (of_side side seen)))
  pub calls : disk'.counts.calls ≡ raised disk.counts.calls 1

pub record ReadsSlice (side from count : ℕ) (disk disk' : DiskView) (old new : List ℕ) (result : Result (Unit {0}) StoreFault) : Type 0 where
  pub ok : OnOk result (Gets side from count disk disk' old new)
  pub no_shorter : length old ≤ length new
