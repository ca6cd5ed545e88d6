-- Bodies that are read and digested as they come.
use Rattle.std.specs.Prelude.{◌≡◌, ℕ, ◌+◌, ◌-◌, ◌<◌, Bool, true, false, List, ◌++◌, length, Option, Some, None, Result, IfOk, IfSome, IsErrOf, OnOk}
use Rattle.sha2.specs.Sha256.{sha256}
use Rattle.ga_codec.specs.Pieces.{BeginsNone, BodyFront, GoesOn, HasNone, front_bytes, is_full}
use Rattle.ga_codec.specs.Shapes.{SpellDelta, SpellSnapshot}
use Rattle.ga_codec.specs.Values.{delta_value, snapshot_value}
use Rattle.ga_codec.specs.declared.fault.CodecFault.{CodecFault}
use Rattle.ga_codec.specs.declared.fault.CodecFault.TheVariants.{NotInGrammar}
use Rattle.ga_codec.specs.declared.snapshot.Delta.{Delta}
use Rattle.ga_codec.specs.declared.snapshot.Snapshot.{Snapshot}
use Rattle.ga_store.specs.Steps.SideParts.{HoldsBytes}
use Rattle.ga_store.specs.Steps.Stream.{IsRest, StreamView, asked}
use Rattle.ga_store.specs.declared.body_reading.OpenBody.{OpenBody}

-- what was read was digested, or waits for it
abbrev pub IsHashed : OpenBody → Type 0
IsHashed body = HoldsBytes body.digest (front_bytes body.reader)

-- the number of a body's bytes
abbrev pub size_of : OpenBody → ℕ
size_of body = length (front_bytes body.reader) + body.left

-- a body is read on at the front of a piece
pub record ReadsOn (piece : List ℕ) (is_last : Bool) (old new : BodyFront) (result : Result ℕ CodecFault) : Type 0 where
  pub read : IfOk result (λ count. GoesOn count piece old new)
  pub last : OnOk result (is_last ≡ true → is_full new ≡ true)
  pub refused : (at : ℕ) → IsErrOf result (NotInGrammar at) → BeginsNone old.is_snapshot is_last (front_bytes old ++ piece)

-- this many bytes of a piece were read
pub record PieceRead (count : ℕ) (piece : List ℕ) (old new : OpenBody) : Type 0 where
  pub goes_on : GoesOn count piece old.reader new.reader
  pub hashed : IsHashed new
  pub left : new.left + count ≡ old.left

-- the bytes that were taken are those that were read
pub record HasRead (old new : OpenBody) (taken : List ℕ) : Type 0 where
  pub kind : new.reader.is_snapshot ≡ old.reader.is_snapshot
  pub head : IfSome old.reader.head (λ h. new.reader.head ≡ Some h)
  pub bytes : front_bytes new.reader ≡ front_bytes old.reader ++ taken
  pub hashed : IsHashed new
  pub left : old.left ≡ length taken + new.left

-- no body of the kind and the size stands with its digest at the front of the bytes
abbrev pub LacksBody : Bool → ℕ → List ℕ → Type 0
LacksBody is_snapshot size bytes = (body tail : List ℕ) → length body ≡ size → bytes ≡ (body ++ sha256 body) ++ tail → HasNone is_snapshot body

-- rows were read, and all of them, or a slice more of the side
pub record NextRead (s s' : StreamView) (old new : OpenBody) (taken : List ℕ) : Type 0 where
  pub has : HasRead old new taken
  pub more : is_full new.reader ≡ false → s.size - asked s' < s.size - asked s

-- whether what was read may be in a body
abbrev pub SaysNext : StreamView → StreamView → OpenBody → OpenBody → Bool → List ℕ → Type 0
SaysNext s s' old new true taken = NextRead s s' old new taken
SaysNext s s' old new false taken = (rest : List ℕ) → IsRest s' rest
    → LacksBody old.reader.is_snapshot (size_of old) (front_bytes old.reader ++ (taken ++ rest))

-- whether all rows were read
abbrev pub SaysRows : StreamView → OpenBody → OpenBody → Bool → List ℕ → Type 0
SaysRows s old new true taken = HasRead old new taken × (is_full new.reader ≡ true)
SaysRows s old new false taken = (rest : List ℕ) → IsRest s rest
    → LacksBody old.reader.is_snapshot (size_of old) (front_bytes old.reader ++ (taken ++ rest))

-- the rest of a body and its digest were taken, and this is its snapshot
pub record HasBody {A : Type 0} (Spell : List ℕ → A → Type 0) (value : A) (start : OpenBody) (taken : List ℕ) : Type 0 where
  pub body : List ℕ
  pub size : length body ≡ size_of start
  pub spells : Spell body value
  pub bytes : front_bytes start.reader ++ taken ≡ body ++ sha256 body

-- the snapshot of a body that was begun, and has the number that was read before, where one was
pub record IsSnapshotOf (start : OpenBody) (snapshot : Snapshot) (taken : List ℕ) : Type 0 where
  pub has : HasBody SpellSnapshot (snapshot_value snapshot) start taken
  pub number : IfSome start.reader.head (λ h. snapshot.generation ≡ h.generation)

abbrev pub SaysSnapshot : StreamView → OpenBody → Option Snapshot → List ℕ → Type 0
SaysSnapshot s start (Some snapshot) taken = IsSnapshotOf start snapshot taken
SaysSnapshot s start None taken = (rest : List ℕ) → IsRest s rest → LacksBody true (size_of start) (front_bytes start.reader ++ (taken ++ rest))

abbrev pub SaysDelta : StreamView → OpenBody → Option Delta → List ℕ → Type 0
SaysDelta s start (Some delta) taken = HasBody SpellDelta (delta_value delta) start taken
SaysDelta s start None taken = (rest : List ℕ) → IsRest s rest → LacksBody false (size_of start) (front_bytes start.reader ++ (taken ++ rest))
