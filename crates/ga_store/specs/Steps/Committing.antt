-- What the steps of a commit do to the disk.
use Rattle.std.specs.Prelude.{◌≡◌, ◌⊎◌, ℕ, ◌+◌, ◌≤◌, ◌<◌, ◌++◌, Bool, true, List, [], ◌∷◌, length, take, drop, if◌then◌else◌, Some, option_map, Result, OnOk, OnErr, IfOk, IfErr, IfSome}
use Rattle.ga_counters.specs.Counts.{raised}
use Rattle.ga_disk.specs.Disk.{CutAt, DiskView, Steps, TornAt, written}
use Rattle.ga_disk.specs.Images.{Elapses, Follows, Images, LeavesOnly, LeavesSame, OnlyImage}
use Rattle.ga_disk.specs.Sides.{Sides, of_side, with_side}
use Rattle.ga_disk.specs.Trace.{DiskTrace}
use Rattle.ga_store.specs.Commit.{Work, closing_calls, look_calls, must_close, tail_calls}
use Rattle.ga_store.specs.Commits.{Frames, Takes}
use Rattle.ga_store.specs.Database.{DbValue, no_summary}
use Rattle.ga_store.specs.SideParts.{closed_gate}
use Rattle.ga_store.specs.declared.fault.StoreFault.{StoreFault}
use Rattle.ga_store.specs.declared.fault.StoreFault.TheVariants.{DiskFault}
use Rattle.ga_store.specs.declared.position.Position.{Position}

-- a database that stands at this position, in which nothing was counted
abbrev pub db_at : Position → DbValue
db_at p = record { summary = no_summary; entries = []; keep = p.keep; generation = p.generation; side = p.side; records = p.records; slot = p.slot }

-- the bytes in front of a place are the same, and reach it
pub record SameFront (n : ℕ) (old new : List ℕ) : Type 0 where
  pub reaches : n ≤ length new
  pub same : take n new ≡ take n old

-- the disk reads so, and that is its one image
pub record Settles (sides : Sides) (disk : DiskView) (images : Images) : Type 0 where
  pub seen : disk.seen ≡ Some sides
  pub only : OnlyImage images sides

-- a trace of calls that fails for the disk alone, exactly where one of them failed
pub record Works {A : Type 0} (disk disk' : DiskView) (result : Result A StoreFault) : Type 0 where
  pub no_fault : OnOk result (disk'.counts.faults ≡ disk.counts.faults)
  pub fault : OnErr result (disk'.counts.faults ≡ raised disk.counts.faults 1)
  pub cause : IfErr result (λ fault. fault ≡ DiskFault)
  pub frames : Frames disk disk'
  pub calls : DiskTrace disk disk'

-- all along each image has P
pub record Keeps (P : Sides → Type 0) (images images' : Images) : Type 0 where
  pub moments : LeavesOnly images images' P
  pub last : (image : Sides) → images'.now image → P image

-- all along each image has P, and after Ok the disk reads so
pub record Leads (P : Sides → Type 0) (after : Sides) (disk' : DiskView) (images images' : Images) (result : Result (Unit {0}) StoreFault)
    : Type 0 where
  pub along : Keeps P images images'
  pub ok : OnOk result (Settles after disk' images')

-- ---- a gate

-- the gate's byte is read, if there is one
pub record LooksAt (side gate : ℕ) (disk disk' : DiskView) (images images' : Images) (result : Result Bool StoreFault) : Type 0 where
  pub works : Works disk disk' result
  pub seen : disk'.seen ≡ disk.seen
  pub leaves : LeavesSame images images'
  pub ok : IfOk result (λ must. IfSome disk.seen (λ sides. must ≡ must_close gate (of_side side sides)))
  pub counted : IfOk result (λ must. IfSome disk.seen (λ sides. Takes (look_calls gate (of_side side sides)) disk disk'))

-- one byte was written and synced
abbrev pub after_byte : ℕ → ℕ → ℕ → Sides → Sides
after_byte side gate byte sides = with_side side (written gate (byte ∷ []) (of_side side sides)) sides

pub record Sets (side gate byte : ℕ) (disk disk' : DiskView) (images images' : Images) (result : Result (Unit {0}) StoreFault)
    : Type 0 where
  pub works : Works disk disk' result
  pub reads : OnOk result (disk'.seen ≡ option_map (after_byte side gate byte) disk.seen)
  pub counted : OnOk result (Takes 2 disk disk')
  pub told : (sides : Sides) → Settles sides disk images
      → Leads (Steps side (TornAt gate 1) sides) (after_byte side gate byte sides) disk' images images' result
  -- a steady disk that fails is as it was, or reads as it is to be
  pub steady : (sides : Sides) → Settles sides disk images → disk.steady ≡ true
      → OnErr result (OnlyImage images' sides ⊎ (disk'.seen ≡ Some (after_byte side gate byte sides)))

-- the gate was closed where it must
abbrev pub after_closing : ℕ → ℕ → Sides → Sides
after_closing side gate sides = if must_close gate (of_side side sides) then after_byte side gate closed_gate sides else sides

-- it stays, or changes where it must
abbrev pub IsClosing : ℕ → ℕ → Sides → Sides → Type 0
IsClosing side gate sides image = (image ≡ sides)
    ⊎ ((must_close gate (of_side side sides) ≡ true) × Steps side (TornAt gate 1) sides image)

pub record Closes (side gate : ℕ) (disk disk' : DiskView) (images images' : Images) (result : Result (Unit {0}) StoreFault)
    : Type 0 where
  pub works : Works disk disk' result
  pub reads : OnOk result (disk'.seen ≡ option_map (after_closing side gate) disk.seen)
  pub counted : OnOk result (IfSome disk.seen (λ sides. Takes (closing_calls gate (of_side side sides)) disk disk'))
  pub told : (sides : Sides) → Settles sides disk images
      → Leads (IsClosing side gate sides) (after_closing side gate sides) disk' images images' result

-- ---- what follows it

-- a side with these bytes after the gate, where a new generation ends
abbrev pub with_tail : Work → List ℕ → List ℕ
with_tail w side = take (w.gate + 1) side ++ w.tail ++ (if w.is_new then [] else drop (w.gate + 1 + length w.tail) side)

abbrev pub after_tail : Work → Sides → Sides
after_tail w sides = with_side w.side (with_tail w (of_side w.side sides)) sides

-- a side is cut or stays
pub record Ends (side len : ℕ) (cuts : Bool) (disk disk' : DiskView) (images images' : Images) (result : Result (Unit {0}) StoreFault)
    : Type 0 where
  pub works : Works disk disk' result
  pub follows : Follows side (CutAt len) images images'
  pub time : Elapses images images'
  pub counted : OnOk result (Takes (if cuts then 1 else 0) disk disk')
  pub ok : OnOk result (disk'.seen ≡ (if cuts
      then option_map (λ sides. with_side side (take len (of_side side sides)) sides) disk.seen else disk.seen))

pub record Fills (work : Work) (disk disk' : DiskView) (images images' : Images) (result : Result (Unit {0}) StoreFault) : Type 0 where
  pub works : Works disk disk' result
  pub reads : OnOk result (disk'.seen ≡ option_map (after_tail work) disk.seen)
  pub counted : OnOk result (Takes (tail_calls work.is_new) disk disk')
  pub told : (sides : Sides) → Settles sides disk images → work.gate < length (of_side work.side sides)
      → Leads (Steps work.side (SameFront (work.gate + 1)) sides) (after_tail work sides) disk' images images' result
