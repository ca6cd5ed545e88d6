-- How pairs and rows of sums are put down, one more.
use Rattle.std.specs.Prelude.{◌⊎◌, ℕ, ◌+◌, ◌-◌, ◌≡◌, ◌^◌, min, max, nat_lt, if◌then◌else◌, List, [], ◌∷◌, ◌++◌, length, set, slice_index_or, All, IfSome, Option}
use Rattle.std.specs.List.{Contains}
use Rattle.ga_tallies.specs.Tallies.{pair_of}
use Rattle.ga_tallies.specs.declared.pairs.Pair.{Pair}
use Rattle.ga_base.specs.declared.counts.Sums.{Sums}

-- what was there is there still
abbrev pub KeepsAll : {T : Type 0} → List T → List T → Type 0
KeepsAll {T} old new = (other : T) → Contains old other → Contains new other

-- an item came to the others
pub record AddsOne {T : Type 0} (item : T) (old new : List T) : Type 0 where
  pub kept : KeepsAll old new
  pub there : Contains new item
  pub only : (other : T) → Contains new other → Contains old other ⊎ (item ≡ other)

-- two lists have the same items
pub record HoldTheSame {T : Type 0} (old new : List T) : Type 0 where
  pub kept : KeepsAll old new
  pub only : KeepsAll new old

-- the pairs at these places are among the others
abbrev pub AreThere : List (ℕ × ℕ) → List (Option Pair) → Type 0
AreThere pairs places = All (λ place. IfSome place (λ pair. Contains pairs (pair_of pair))) places

-- a sum that stops at the greatest number
abbrev pub stopped : ℕ → ℕ → ℕ
stopped a b = min (a + b) (2 ^ 64 - 1)

-- a row of sums, and a line's
abbrev pub with_line : Sums → Sums → Sums
with_line row line = record {
  hits = stopped row.hits line.hits;
  bytes = stopped row.bytes line.bytes;
  micros = stopped row.micros line.micros;
  max_micros = max row.max_micros line.max_micros;
}

-- the rows after a line's sums were put down at a place: in the row there, or after them all
abbrev pub added_at : ℕ → Sums → List Sums → List Sums
added_at place line rows =
    if nat_lt place (length rows) then set rows place (with_line (slice_index_or rows place line) line) else rows ++ line ∷ []
