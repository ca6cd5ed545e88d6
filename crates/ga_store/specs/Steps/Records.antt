-- The records after a snapshot.
use Rattle.std.specs.Prelude.{◌≡◌, ℕ, ◌+◌, ◌≤◌, Bool, true, false, List, ◌∷◌, ◌++◌, length, Option, Some, None}
use Rattle.ga_base.specs.Totals.{totals_plus}
use Rattle.ga_summary.specs.Limits.{passes}
use Rattle.ga_summary.specs.Steps.Joined.{merged_value}
use Rattle.ga_summary.specs.SummaryRows.{IsInOrder, SummaryValue}
use Rattle.ga_summary.specs.Sums.{IsMerged}
use Rattle.ga_codec.specs.Shapes.{SpellDelta}
use Rattle.ga_codec.specs.Values.{DeltaValue, delta_value}
use Rattle.ga_codec.specs.declared.snapshot.Delta.{Delta}
use Rattle.ga_store.specs.SideParts.{is_open_at, part_bytes}
use Rattle.ga_store.specs.Database.{DbValue, ReadsOn, TakesOn}
use Rattle.ga_store.specs.Steps.Recovery.{LacksRecord}
use Rattle.ga_store.specs.Steps.Starts.{reading_of}
use Rattle.ga_store.specs.Steps.Stream.{IsAt, IsRest, StreamView}
use Rattle.ga_store.specs.declared.starts.Said.{Said}

-- an open gate comes next, and its byte was read
pub record BehindGate (s : StreamView) : Type 0 where
  pub window : 1 ≤ length s.window
  pub gate : (rest : List ℕ) → IsRest s rest → is_open_at rest 0 ≡ true

-- a gate, and a part with this run record
pub record HasDelta (delta : Delta) (taken : List ℕ) : Type 0 where
  pub body : List ℕ
  pub gate : ℕ
  pub bytes : taken ≡ gate ∷ part_bytes body
  pub spells : SpellDelta body (delta_value delta)

abbrev pub SaysDelta : StreamView → Option Delta → List ℕ → Type 0
SaysDelta s (Some delta) taken = HasDelta delta taken
SaysDelta s None taken = (rest : List ℕ) → IsRest s rest → LacksRecord (taken ++ rest) 0

-- a summary with what is kept apart, if anything is
abbrev pub with_apart : SummaryValue → Option SummaryValue → SummaryValue
with_apart s None = s
with_apart s (Some apart) = merged_value s apart

-- what is kept apart, if anything is, with a summary more
abbrev pub IsTogether : Option SummaryValue → SummaryValue → SummaryValue → Type 0
IsTogether None more all = all ≡ more
IsTogether (Some apart) more all = IsInOrder apart.rows × IsMerged apart more all

-- a run record was taken on, which the gate at this place follows
pub record TookDelta (old new : DbValue) (delta : DeltaValue) (next : ℕ) : Type 0 where
  pub limits : passes (totals_plus old.summary.totals delta.summary.totals) ≡ None
  pub merged : IsMerged old.summary delta.summary new.summary
  pub others : new ≡ record old { summary = new.summary; entries = delta.entries; records = old.records + 1; slot = next }

-- whether a run record was taken on: not where its totals pass a limit
abbrev pub TakesDelta : DbValue → DbValue → DeltaValue → ℕ → Bool → Type 0
TakesDelta old new delta next true = TookDelta old new delta next
TakesDelta old new delta next false = passes (totals_plus old.summary.totals delta.summary.totals) ≡ None → ⊥

-- behind the bytes up to its slot the database takes on the record
pub record TookRecord (s : StreamView) (old new : DbValue) (taken : List ℕ) : Type 0 where
  pub takes_on : (before rest : List ℕ) → length before ≡ old.slot → IsRest s rest → TakesOn (before ++ (taken ++ rest)) old new
  pub place : IsAt s new.slot
  pub few : new.records ≤ new.slot
  pub some : 1 ≤ length taken

abbrev pub SaysRecord : StreamView → DbValue → DbValue → Bool → List ℕ → Type 0
SaysRecord s old new true taken = TookRecord s old new taken
SaysRecord s old new false taken = (before rest : List ℕ) → length before ≡ old.slot → IsRest s rest
    → (next : DbValue) → TakesOn (before ++ (taken ++ rest)) old next → ⊥

-- what the side says, from the database of its snapshot on
abbrev pub SaysOn : StreamView → ℕ → DbValue → Said → List ℕ → Type 0
SaysOn s number start said taken = (before rest : List ℕ) → length before ≡ start.slot → IsRest s rest
    → ReadsOn number (before ++ (taken ++ rest)) start (reading_of said)
