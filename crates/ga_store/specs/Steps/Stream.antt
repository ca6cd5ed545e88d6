-- A side that is read from its start to its end, slice by slice, and bytes that are taken off it.
use Rattle.std.specs.Prelude.{◌≡◌, ℕ, ◌+◌, ◌-◌, ◌*◌, ◌≤◌, false, List, [], ◌++◌, length, take, drop, min, Option, Result, IfOk, IfErr, IfSome}
use Rattle.ga_counters.specs.Counts.{raised}
use Rattle.ga_disk.specs.Disk.{DiskView, max_size}
use Rattle.ga_disk.specs.Images.{Images}
use Rattle.ga_disk.specs.Sides.{Sides, of_side}
use Rattle.ga_store.specs.Steps.Recovery.{IsOutside}
use Rattle.ga_store.specs.Store.{Looks, is_disk_fault, most_read}
use Rattle.ga_store.specs.declared.fault.StoreFault.{StoreFault}

-- how far a side was read
pub record StreamView : Type 0 where
  pub side : ℕ
  pub size : ℕ
  -- the calls that read of it, each of which but the last as much as one may
  pub reads : ℕ
  -- the bytes that were read and not yet taken
  pub window : List ℕ

-- how many bytes were read
abbrev pub asked : StreamView → ℕ
asked s = min s.size (s.reads * most_read)

-- how many bytes weren't taken
abbrev pub left : StreamView → ℕ
left s = length s.window + (s.size - asked s)

-- the place of the first byte that wasn't taken
abbrev pub place : StreamView → ℕ
place s = s.size - left s

-- the bytes that weren't taken, as the sides have them
abbrev pub rest_of : StreamView → Sides → List ℕ
rest_of s seen = s.window ++ drop (asked s) (of_side s.side seen)

-- bytes that may be those that weren't taken, by what was read
pub record IsRest (s : StreamView) (rest : List ℕ) : Type 0 where
  pub size : length rest ≡ left s
  pub front : take (length s.window) rest ≡ s.window

-- this many bytes were taken
abbrev pub IsAt : StreamView → ℕ → Type 0
IsAt s place = place + left s ≡ s.size

-- the size is that of the side, where it is told
abbrev pub HasSizeOf : StreamView → Option Sides → Type 0
HasSizeOf s seen = IfSome seen (λ seen. s.size ≡ length (of_side s.side seen))

-- a stream of the side
pub record IsOf (s : StreamView) (seen : Option Sides) : Type 0 where
  pub within : left s ≤ s.size
  pub fits : s.size ≤ max_size
  pub told : HasSizeOf s seen

-- nothing of a side was read but its size, by one call
pub record Begins (side : ℕ) (disk disk' : DiskView) (s : StreamView) : Type 0 where
  pub is : s ≡ record { side = side; size = s.size; reads = 0; window = [] }
  pub size : s.size ≤ max_size
  pub told : HasSizeOf s disk.seen
  pub calls : disk'.counts.calls ≡ raised disk.counts.calls 1

-- these bytes were taken
pub record TookOff (seen : Option Sides) (old new : StreamView) (taken : List ℕ) : Type 0 where
  pub side : new.side ≡ old.side
  pub size : new.size ≡ old.size
  pub reads : ℕ
  pub read : new.reads ≡ old.reads + reads
  pub long : left old ≡ length taken + left new
  pub rest : (rest : List ℕ) → IsRest new rest → IsRest old (taken ++ rest)
  pub told : IfSome seen (λ seen. rest_of old seen ≡ taken ++ rest_of new seen)

-- these bytes were taken, and no call was made but reads of the side
pub record Took (disk disk' : DiskView) (images images' : Images) (old new : StreamView) (taken : List ℕ) : Type 0 where
  pub off : TookOff disk.seen old new taken
  pub looks : Looks false disk disk' images images'
  pub calls : disk'.counts.calls ≡ raised disk.counts.calls off.reads

-- bytes were taken that go with the answer; or a call failed or memory ran out
pub record Streams {X : Type 0} (disk disk' : DiskView) (images images' : Images) (old new : StreamView)
    (Goes : X → List ℕ → Type 0) (result : Result X StoreFault) : Type 0 where
  pub looks : Looks (is_disk_fault result) disk disk' images images'
  pub took : IfOk result (λ x. (taken : List ℕ) × Took disk disk' images images' old new taken × Goes x taken)
  pub outside : IfErr result IsOutside
