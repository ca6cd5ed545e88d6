-- Bytes that are taken off both sides.
use Rattle.std.specs.Prelude.{◌≡◌, ℕ, ◌+◌, false, List, ◌++◌, length, Option, Result, IfOk, IfErr}
use Rattle.ga_counters.specs.Counts.{raised}
use Rattle.ga_disk.specs.Disk.{DiskView}
use Rattle.ga_disk.specs.Images.{Images}
use Rattle.ga_codec.specs.Values.{snapshot_value}
use Rattle.ga_store.specs.Database.{DbOf, empty_db, of_snapshot}
use Rattle.ga_store.specs.Database.Reading.{damaged, stored}
use Rattle.ga_store.specs.Steps.Recovery.{IsOutside}
use Rattle.ga_store.specs.Steps.Records.{SaysOn}
use Rattle.ga_store.specs.Steps.Starts.{SaysBegun, SaysStart, IsPlaced, number_of, reading_of}
use Rattle.ga_store.specs.Steps.Stream.{IsAt, IsRest, StreamView, TookOff}
use Rattle.ga_store.specs.Store.{Looks, is_disk_fault}
use Rattle.ga_store.specs.declared.fault.StoreFault.{StoreFault}
use Rattle.ga_store.specs.declared.starts.Begun.{Begun}
use Rattle.ga_store.specs.declared.starts.Said.{Said}
use Rattle.ga_store.specs.declared.starts.Start.{Start}
use Rattle.ga_store.specs.declared.starts.Start.TheVariants.{Damaged as StartDamaged, Older, Snapshot, Unused as StartUnused}

-- two streams at one moment
pub record Pair : Type 0 where
  pub s0 : StreamView
  pub s1 : StreamView

-- these bytes were taken off each side, and no call was made but reads of the two
pub record TookBoth (disk disk' : DiskView) (images images' : Images) (old new : Pair) (taken0 taken1 : List ℕ) : Type 0 where
  pub off0 : TookOff disk.seen old.s0 new.s0 taken0
  pub off1 : TookOff disk.seen old.s1 new.s1 taken1
  pub looks : Looks false disk disk' images images'
  pub calls : disk'.counts.calls ≡ raised disk.counts.calls (off0.reads + off1.reads)

-- what was taken goes with the answer
pub record GoesBoth {X : Type 0} (disk disk' : DiskView) (images images' : Images) (old new : Pair)
    (Goes : X → List ℕ → List ℕ → Type 0) (x : X) : Type 0 where
  pub taken0 : List ℕ
  pub taken1 : List ℕ
  pub took : TookBoth disk disk' images images' old new taken0 taken1
  pub goes : Goes x taken0 taken1

-- bytes were taken that go with the answer; or a call failed or memory ran out
pub record StreamsBoth {X : Type 0} (disk disk' : DiskView) (images images' : Images) (old new : Pair)
    (Goes : X → List ℕ → List ℕ → Type 0) (result : Result X StoreFault) : Type 0 where
  pub looks : Looks (is_disk_fault result) disk disk' images images'
  pub took : IfOk result (GoesBoth disk disk' images images' old new Goes)
  pub outside : IfErr result IsOutside

-- the starts of both sides are whole
pub record StartsGoOn (old new : Pair) (begun0 begun1 : Begun) (starts : Start × Start) (taken0 taken1 : List ℕ) : Type 0 where
  pub placed0 : IsPlaced new.s0 starts.0
  pub placed1 : IsPlaced new.s1 starts.1
  pub says0 : (before rest : List ℕ) → SaysBegun old.s0 begun0 before → IsAt new.s0 (length before + length taken0) → IsRest new.s0 rest
      → SaysStart (number_of begun0) (number_of begun1) (before ++ (taken0 ++ rest)) (length before + length taken0) starts.0
  pub says1 : (before rest : List ℕ) → SaysBegun old.s1 begun1 before → IsAt new.s1 (length before + length taken1) → IsRest new.s1 rest
      → SaysStart (number_of begun1) (number_of begun0) (before ++ (taken1 ++ rest)) (length before + length taken1) starts.1

-- what both sides say, from their starts on
abbrev pub SidesSay : Pair → Start → Start → Said → List ℕ → List ℕ → Type 0
SidesSay new start0 start1 said taken0 taken1 = (own0 own1 : Option ℕ) (before0 rest0 before1 rest1 : List ℕ)
    → SaysStart own0 own1 (before0 ++ (taken0 ++ rest0)) (length before0) start0 → SaysStart own1 own0 (before1 ++ (taken1 ++ rest1)) (length before1) start1
    → IsRest new.s0 rest0 → IsRest new.s1 rest1
    → DbOf (record { side0 = before0 ++ (taken0 ++ rest0); side1 = before1 ++ (taken1 ++ rest1) }) (reading_of said)

-- the same from the start of side 1 on, where side 0 has no snapshot that may be chosen
abbrev pub SecondSays : StreamView → Start → Said → List ℕ → Type 0
SecondSays new StartDamaged said taken = reading_of said ≡ damaged 1 1
SecondSays new (Snapshot second) said taken = SaysOn new 1 (of_snapshot 1 second.next (snapshot_value second.snapshot)) said taken
SecondSays new StartUnused said taken = reading_of said ≡ stored empty_db
SecondSays new Older said taken = reading_of said ≡ stored empty_db

-- what both sides say
abbrev pub AllSay : Pair → Said → List ℕ → List ℕ → Type 0
AllSay new said taken0 taken1 = (rest0 rest1 : List ℕ) → IsRest new.s0 rest0 → IsRest new.s1 rest1
    → DbOf (record { side0 = taken0 ++ rest0; side1 = taken1 ++ rest1 }) (reading_of said)
