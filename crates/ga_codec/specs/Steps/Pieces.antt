-- How a body is read piece by piece: its head, then its rows.
use Rattle.std.specs.Prelude.{◌≡◌, ℕ, ◌+◌, ◌<◌, ◌≤◌, ◌^◌, Bool, true, false, List, [], ◌++◌, length}
use Rattle.std.specs.Prelude.{Option, None, Some, Result, Ok, Err, IfOk, IfSome, IsErrOf, MatchOption}
use Rattle.std.specs.List.{flat_map, AllByRecursion}
use Rattle.ga_summary.specs.SummaryRows.{SummaryRow}
use Rattle.ga_codec.specs.declared.body_reader.Head.{Head}
use Rattle.ga_codec.specs.declared.fault.CodecFault.{CodecFault}
use Rattle.ga_codec.specs.declared.fault.CodecFault.TheVariants.{NotInGrammar, NoMemory}
use Rattle.ga_codec.specs.declared.snapshot_start.Start.{Start}
use Rattle.ga_codec.specs.Pieces.{HeadValue, BodyFront, head_bytes, start_bytes}
use Rattle.ga_codec.specs.Shapes.{Fits64, FitsRow, FitsTotals, IsGeneration}
use Rattle.ga_codec.specs.Spelling.{row_bytes}
use Rattle.ga_codec.specs.Steps.Grammar.{row}
use Rattle.ga_codec.specs.Steps.Parts.{Part, Cursor, Takes}

abbrev pub head_value : Head → HeadValue
head_value h = record { generation = h.generation; keep = h.keep; totals = h.totals; count = h.count }

-- a run record has no generation, which is told as 0, and doesn't say how many days are kept
abbrev pub FitsStart : Bool → ℕ → Option ℕ → Type 0
FitsStart true generation keep = IsGeneration generation × IfSome keep (λ n. n < 2 ^ 32)
FitsStart false generation keep = (generation ≡ 0) × (keep ≡ None)

pub record FitsHead (is_snapshot : Bool) (h : HeadValue) : Type 0 where
  pub start : FitsStart is_snapshot h.generation h.keep
  pub totals : FitsTotals h.totals
  pub count : Fits64 h.count

-- what is before a body's summary
abbrev pub start : Bool → Part Start
start is_snapshot = record { spell = λ s. start_bytes is_snapshot s.generation s.keep; fits = λ s. FitsStart is_snapshot s.generation s.keep }

abbrev pub head : Bool → Part HeadValue
head is_snapshot = record { spell = λ h. head_bytes is_snapshot h; fits = λ h. FitsHead is_snapshot h }

abbrev pub HeadAllows : Bool → Option HeadValue → List SummaryRow → Type 0
HeadAllows is_snapshot None rows = rows ≡ []
HeadAllows is_snapshot (Some h) rows = FitsHead is_snapshot h × (length rows ≤ h.count)

-- what holds wherever a body was read up to
pub record IsFront (f : BodyFront) : Type 0 where
  pub head : HeadAllows f.is_snapshot f.head f.rows
  pub rows : AllByRecursion FitsRow f.rows

-- no value is spelled at the front of the bytes, whatever follows them; nothing does where they are the last
abbrev pub NeverNext : {A : Type 0} → Part A → Bool → List ℕ → Type 0
NeverNext {A} part is_last bytes = (more : List ℕ) → (is_last ≡ true → more ≡ [])
    → (a : A) (rest : List ℕ) → part.fits a → bytes ++ more ≡ part.spell a ++ rest → ⊥

-- the head that is known, or that was read where none was; or it needs more bytes
abbrev pub ReadsHead : Bool → Bool → Option HeadValue → Cursor → Cursor → Result (Option Head) CodecFault → Type 0
ReadsHead is_snapshot is_last known old new (Ok (Some h)) =
    MatchOption known (Takes (head is_snapshot) (head_value h) old new) (λ k. (head_value h ≡ k) × (new ≡ old))
ReadsHead is_snapshot is_last known old new (Ok None) = (known ≡ None) × (is_last ≡ false)
ReadsHead is_snapshot is_last known old new (Err (NotInGrammar at)) = (known ≡ None) × NeverNext (head is_snapshot) is_last old.rest
ReadsHead is_snapshot is_last known old new (Err NoMemory) = Unit {0}

-- further rows were read, and are no more than there are
pub record MoreRows (count : ℕ) (before after : List SummaryRow) (old new : Cursor) : Type 0 where
  pub more : List SummaryRow
  pub kept : after ≡ before ++ more
  pub fits : AllByRecursion FitsRow more
  pub few : length after ≤ count
  pub bytes : old.rest ≡ flat_map row_bytes more ++ new.rest
  pub place : new.place ≡ old.place + length (flat_map row_bytes more)

-- as many rows were read as the bytes have; the answer is the place after them
pub record ReadsRows (count : ℕ) (is_last : Bool) (before after : List SummaryRow) (old : Cursor) (result : Result ℕ CodecFault) : Type 0 where
  pub reached : Cursor
  pub rows : MoreRows count before after old reached
  pub ok : IfOk result (λ place. (place ≡ reached.place) × (is_last ≡ true → length after ≡ count))
  pub refused : (at : ℕ) → IsErrOf result (NotInGrammar at) → (length after < count) × NeverNext row is_last reached.rest
