-- Bodies that are read piece by piece: how far one was read, and bytes that begin none.
use Rattle.std.specs.Prelude.{◌≡◌, ℕ, ◌≤◌, Bool, true, false, ◌==◌, List, [], ◌++◌, length, take, Option, None, Some, IfSome}
use Rattle.std.specs.List.{flat_map}
use Rattle.ga_base.specs.declared.counts.Totals.{Totals}
use Rattle.ga_summary.specs.SummaryRows.{SummaryRow}
use Rattle.ga_codec.specs.Shapes.{SpellDelta, SpellSnapshot}
use Rattle.ga_codec.specs.Spelling.{eight_bytes, row_bytes, snapshot_head, totals_bytes, version_bytes}
use Rattle.ga_codec.specs.Values.{DeltaValue, SnapshotValue}

-- what a body says before its rows
pub record HeadValue : Type 0 where
  -- the number of a snapshot, 0 in a run record
  pub generation : ℕ
  -- how many of the last days a snapshot keeps, where it says so; None in a run record
  pub keep : Option ℕ
  pub totals : Totals
  -- the number of the summary's rows
  pub count : ℕ

-- how far a body was read
pub record BodyFront : Type 0 where
  -- a snapshot, else a run record
  pub is_snapshot : Bool
  pub head : Option HeadValue
  pub rows : List SummaryRow

-- what is before the summary
abbrev pub start_bytes : Bool → ℕ → Option ℕ → List ℕ
start_bytes true generation keep = snapshot_head generation keep
start_bytes false generation keep = version_bytes

abbrev pub head_bytes : Bool → HeadValue → List ℕ
head_bytes is_snapshot h = start_bytes is_snapshot h.generation h.keep ++ totals_bytes h.totals ++ eight_bytes h.count

abbrev pub bytes_read : Bool → Option HeadValue → List SummaryRow → List ℕ
bytes_read is_snapshot None rows = []
bytes_read is_snapshot (Some h) rows = head_bytes is_snapshot h ++ flat_map row_bytes rows

-- the bytes that were read
abbrev pub front_bytes : BodyFront → List ℕ
front_bytes f = bytes_read f.is_snapshot f.head f.rows

abbrev pub has_all : Option HeadValue → ℕ → Bool
has_all None number = false
has_all (Some h) number = number == h.count

-- all rows were read
abbrev pub is_full : BodyFront → Bool
is_full f = has_all f.head (length f.rows)

-- no body of the kind has these bytes
abbrev pub HasNone : Bool → List ℕ → Type 0
HasNone true bytes = (s : SnapshotValue) → SpellSnapshot bytes s → ⊥
HasNone false bytes = (d : DeltaValue) → SpellDelta bytes d → ⊥

-- no body of the kind begins with these bytes; where they are its last, none has them
abbrev pub BeginsNone : Bool → Bool → List ℕ → Type 0
BeginsNone is_snapshot is_last bytes = (more : List ℕ) → (is_last ≡ true → more ≡ []) → HasNone is_snapshot (bytes ++ more)

-- this many bytes of a piece were read
pub record GoesOn (n : ℕ) (piece : List ℕ) (old new : BodyFront) : Type 0 where
  pub within : n ≤ length piece
  pub kind : new.is_snapshot ≡ old.is_snapshot
  pub head : IfSome old.head (λ h. new.head ≡ Some h)
  pub bytes : front_bytes new ≡ front_bytes old ++ take n piece
