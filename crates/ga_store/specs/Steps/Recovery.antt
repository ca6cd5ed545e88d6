-- What the steps of recovery answer.
use Rattle.std.specs.Prelude.{◌≡◌, ℕ, ◌+◌, ◌*◌, ◌<◌, ◌≤◌, List, length, Result, Ok, Err, IfSome}
use Rattle.ga_codec.specs.Values.{DeltaValue}
use Rattle.ga_codec.specs.Shapes.{SpellDelta}
use Rattle.ga_disk.specs.Disk.{DiskView, max_size}
use Rattle.ga_disk.specs.Sides.{of_side}
use Rattle.ga_store.specs.SideParts.{IsPartAt, part_bytes}
use Rattle.ga_store.specs.Database.{Reading}
use Rattle.ga_store.specs.Database.Reading.{damaged, stored}
use Rattle.ga_store.specs.Store.{db_value, most_read}
use Rattle.ga_store.specs.declared.db.Db.{Db}
use Rattle.ga_store.specs.declared.fault.StoreFault.{StoreFault}
use Rattle.ga_store.specs.declared.fault.StoreFault.TheVariants.{CounterFull, Damaged, DiskFault, NoMemory}

-- ---- the disk is looked at

-- the bytes of a side, where they are told, and no more of them than a side may have
pub record IsSide (side : ℕ) (disk : DiskView) (bytes : List ℕ) : Type 0 where
  pub told : IfSome disk.seen (λ seen. bytes ≡ of_side side seen)
  pub size : length bytes ≤ max_size

-- this many bytes are read by this number of calls, each of which but the last reads as many as one may
pub record InPieces (bytes reads : ℕ) : Type 0 where
  pub enough : bytes ≤ reads * most_read
  pub none_over : reads * most_read < bytes + most_read

-- a call failed or memory ran out
abbrev pub IsOutside : StoreFault → Type 0
IsOutside DiskFault = Unit {0}
IsOutside NoMemory = Unit {0}
IsOutside (Damaged side at) = ⊥
IsOutside (CounterFull which total) = ⊥

-- ---- bytes are read

-- the answer is what they say; lack of memory tells nothing
abbrev pub Answers : (Reading → Type 0) → Result Db StoreFault → Type 0
Answers Say (Ok db) = Say (stored (db_value db))
Answers Say (Err (Damaged side at)) = Say (damaged side at)
Answers Say (Err NoMemory) = Unit {0}
Answers Say (Err DiskFault) = ⊥
Answers Say (Err (CounterFull which total)) = ⊥

-- after a gate stands a part with this run record, and the next gate at this place
pub record HasRecord (side : List ℕ) (slot : ℕ) (delta : DeltaValue) (next : ℕ) : Type 0 where
  pub body : List ℕ
  pub part : IsPartAt side (slot + 1) body
  pub spells : SpellDelta body delta
  pub behind : next ≡ slot + 1 + length (part_bytes body)

-- no part with a run record is there
abbrev pub LacksRecord : List ℕ → ℕ → Type 0
LacksRecord side slot = (body : List ℕ) (delta : DeltaValue) → IsPartAt side (slot + 1) body → SpellDelta body delta → ⊥
