-- The starts of two sides.
use Rattle.std.specs.Prelude.{◌≡◌, ℕ, ◌+◌, ◌<◌, ◌≤◌, ◌^◌, true, false, List, ◌∷◌, ◌++◌, length, Option, Some, None, Result, Ok, Err, IfSome, option_map}
use Rattle.ga_codec.specs.Pieces.{front_bytes}
use Rattle.ga_codec.specs.Spelling.{eight_bytes}
use Rattle.ga_codec.specs.Values.{SnapshotValue, snapshot_value}
use Rattle.ga_store.specs.SideParts.{is_open_at, open_gate}
use Rattle.ga_store.specs.Database.{HasSnapshot, LacksSnapshot, Reading}
use Rattle.ga_store.specs.Database.Reading.{damaged, stored}
use Rattle.ga_store.specs.Steps.Bodies.{IsHashed, size_of}
use Rattle.ga_store.specs.Steps.Stream.{IsAt, IsRest, StreamView, left}
use Rattle.ga_store.specs.Store.{db_value}
use Rattle.ga_store.specs.declared.db.Db.{Db}
use Rattle.ga_store.specs.declared.fault.StoreFault.{StoreFault}
use Rattle.ga_store.specs.declared.fault.StoreFault.TheVariants.{Damaged}
use Rattle.ga_store.specs.declared.body_reading.OpenBody.{OpenBody}
use Rattle.ga_store.specs.declared.starts.Begun.{Begun}
use Rattle.ga_store.specs.declared.starts.Begun.TheVariants.{Body, Damaged as BegunDamaged, Unused as BegunUnused}
use Rattle.ga_store.specs.declared.starts.Said.{Said}
use Rattle.ga_store.specs.declared.starts.Said.TheVariants.{Damaged as SaidDamaged, Database}
use Rattle.ga_store.specs.declared.starts.Start.{Start}
use Rattle.ga_store.specs.declared.starts.Start.TheVariants.{Damaged as StartDamaged, Older, Snapshot, Unused as StartUnused}

-- ---- begun

-- the number of a snapshot, where it was read
abbrev pub number_of : Begun → Option ℕ
number_of BegunUnused = None
number_of BegunDamaged = None
number_of (Body body) = option_map (λ h. h.generation) body.reader.head

-- these bytes are an open gate, the size of this body, and what was read of it
pub record IsBegun (before : List ℕ) (body : OpenBody) : Type 0 where
  pub fits : size_of body < 2 ^ 64
  pub is : before ≡ open_gate ∷ (eight_bytes (size_of body) ++ front_bytes body.reader)

-- a snapshot may be read on
pub record CanGoOn (body : OpenBody) (s : StreamView) : Type 0 where
  pub kind : body.reader.is_snapshot ≡ true
  pub hashed : IsHashed body
  pub room : body.left + 32 ≤ left s

abbrev pub BegunGoesOn : Begun → StreamView → Type 0
BegunGoesOn BegunUnused s = Unit {0}
BegunGoesOn BegunDamaged s = Unit {0}
BegunGoesOn (Body body) s = CanGoOn body s

-- what the bytes that were taken at the start of a side say, whatever follows
abbrev pub SaysBegun : StreamView → Begun → List ℕ → Type 0
SaysBegun s BegunUnused taken = (rest : List ℕ) → IsRest s rest → is_open_at (taken ++ rest) 0 ≡ false
SaysBegun s BegunDamaged taken = (rest : List ℕ) → IsRest s rest → LacksSnapshot (taken ++ rest)
SaysBegun s (Body body) taken = IsBegun taken body × CanGoOn body s

-- ---- whole

-- a number is there that is later than this one
abbrev pub IsLaterThan : Option ℕ → ℕ → Type 0
IsLaterThan None number = ⊥
IsLaterThan (Some other) number = number < other

pub record HasOlder (own other : Option ℕ) (side : List ℕ) : Type 0 where
  pub snapshot : SnapshotValue
  pub next : ℕ
  pub has : HasSnapshot side snapshot next
  pub own_number : IfSome own (λ number. snapshot.generation ≡ number)
  pub older : IsLaterThan other snapshot.generation

-- what the start of a side says, by the numbers that were read of its snapshot and of the other side's
abbrev pub SaysStart : Option ℕ → Option ℕ → List ℕ → ℕ → Start → Type 0
SaysStart own other side at StartUnused = (is_open_at side 0 ≡ false) × (own ≡ None)
SaysStart own other side at StartDamaged = LacksSnapshot side
SaysStart own other side at Older = HasOlder own other side
SaysStart own other side at (Snapshot first) = HasSnapshot side (snapshot_value first.snapshot) first.next × (first.next ≡ at)
    × IfSome own (λ number. first.snapshot.generation ≡ number)

-- the gate after a snapshot comes next
abbrev pub IsPlaced : StreamView → Start → Type 0
IsPlaced s StartUnused = Unit {0}
IsPlaced s StartDamaged = Unit {0}
IsPlaced s Older = Unit {0}
IsPlaced s (Snapshot first) = IsAt s first.next

-- the same of a body that was begun, behind the bytes that were taken before
abbrev pub BodyGoesOn : StreamView → OpenBody → Option ℕ → Start → List ℕ → Type 0
BodyGoesOn s body other start taken = IsPlaced s start × ((before rest : List ℕ) → IsBegun before body → IsAt s (length before + length taken) → IsRest s rest
    → SaysStart (option_map (λ h. h.generation) body.reader.head) other (before ++ (taken ++ rest)) (length before + length taken) start)

-- the same behind bytes that were taken before
abbrev pub StartGoesOn : StreamView → StreamView → Begun → Option ℕ → Start → List ℕ → Type 0
StartGoesOn s s' begun other start taken = IsPlaced s' start × ((before rest : List ℕ) → SaysBegun s begun before → IsAt s' (length before + length taken) → IsRest s' rest
    → SaysStart (number_of begun) other (before ++ (taken ++ rest)) (length before + length taken) start)

-- ---- both

abbrev pub reading_of : Said → Reading
reading_of (Database db) = stored (db_value db)
reading_of (SaidDamaged side at) = damaged side at

-- what recovery answers then
abbrev pub answer_of : Said → Result Db StoreFault
answer_of (Database db) = Ok db
answer_of (SaidDamaged side at) = Err (Damaged side at)
