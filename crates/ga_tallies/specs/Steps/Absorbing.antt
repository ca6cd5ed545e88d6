-- What a tally takes in of others: rows of sums and pairs, by the numbers that they get.
use Rattle.std.specs.Prelude.{◌≡◌, ◌≤◌, ◌<◌, ◌+◌, ℕ, ◌⊎◌, List, [], ◌∷◌, Some, slice_get}
use Rattle.std.specs.List.{Contains}
use Rattle.ga_base.specs.declared.counts.Sums.{Sums}
use Rattle.ga_tallies.specs.Steps.Adding.{KeepsAll, added_at}
use Rattle.ga_tallies.specs.Tallies.{TallySeen, lists_in, pairs_in}
use Rattle.ga_tallies.specs.declared.tally_columns.Counts.{Counts}
use Rattle.ga_tallies.specs.declared.remapped_tally.RemappedTally.{RemappedTally}

-- ---- what moves

-- what a tally has counted of its keys: sums at their numbers, and pairs
pub record CountsSeen : Type 0 where
  pub sums : List Sums
  pub pairs : List (ℕ × ℕ)

abbrev pub counts_seen : TallySeen → CountsSeen
counts_seen tally = record { sums = tally.sums; pairs = tally.pairs }

abbrev pub counts_in : Counts → CountsSeen
counts_in counts = record { sums = counts.sums.items; pairs = pairs_in (lists_in counts.visits.items) }

-- the same, and the new numbers of its keys and visitors
pub record RemappedSeen : Type 0 where
  pub keys : List ℕ
  pub visitors : List ℕ
  pub counts : CountsSeen

abbrev pub remapped_seen : RemappedTally → RemappedSeen
remapped_seen remapped = record { keys = remapped.keys.items; visitors = remapped.visitors.items; counts = counts_in remapped.counts }

abbrev pub remapped_with : List (List ℕ) → List (List ℕ) → List CountsSeen → List RemappedSeen
remapped_with (numbers ∷ keys) (places ∷ visitors) (counts ∷ more) = record { keys = numbers; visitors = places; counts = counts } ∷ remapped_with keys visitors more
remapped_with keys visitors counts = []

-- ---- sums

-- rows of sums after others were added, each to the row of its number
abbrev pub rows_added : List ℕ → List Sums → List Sums → List Sums
rows_added [] more rows = rows
rows_added (number ∷ numbers) [] rows = rows
rows_added (number ∷ numbers) (line ∷ more) rows = rows_added numbers more (added_at number line rows)

abbrev pub sums_remapped : List RemappedSeen → List Sums → List Sums
sums_remapped [] rows = rows
sums_remapped (remapped ∷ remapped_tallies) rows = sums_remapped remapped_tallies (rows_added remapped.keys remapped.counts.sums rows)

-- ---- pairs

-- just the items of which this holds came to the others
pub record AddsSuch {T : Type 0} (Comes : T → Type 0) (old new : List T) : Type 0 where
  pub kept : KeepsAll old new
  pub there : (item : T) → Comes item → Contains new item
  pub only : (item : T) → Contains new item → Contains old item ⊎ Comes item

-- the number of a visitor of the row
abbrev pub IsMappedItem : List ℕ → List ℕ → ℕ → Type 0
IsMappedItem visitors row number = (v : ℕ) × Contains row v × (slice_get visitors v ≡ Some number)

-- a pair of the numbers of a key and a visitor that are a pair among these
abbrev pub IsMapped : List ℕ → List ℕ → List (ℕ × ℕ) → ℕ × ℕ → Type 0
IsMapped keys visitors pairs pair = (k : ℕ) × (v : ℕ) × (key : ℕ) × (visitor : ℕ) × Contains pairs (k, v)
    × (slice_get keys k ≡ Some key) × (slice_get visitors v ≡ Some visitor) × (pair ≡ (key, visitor))

-- a pair that comes from a remapped tally, and from one of several
abbrev pub IsBrought : RemappedSeen → ℕ × ℕ → Type 0
IsBrought remapped pair = IsMapped remapped.keys remapped.visitors remapped.counts.pairs pair

abbrev pub IsRemapped : List RemappedSeen → ℕ × ℕ → Type 0
IsRemapped [] pair = ⊥
IsRemapped (remapped ∷ remapped_tallies) pair = IsBrought remapped pair ⊎ IsRemapped remapped_tallies pair

-- of those pairs one with a key of this many, of which the first has this number
abbrev pub IsAmong : ℕ → ℕ → (ℕ × ℕ → Type 0) → ℕ × ℕ → Type 0
IsAmong first many Comes pair = Comes pair × (first ≤ pair.0) × (pair.0 < first + many)
