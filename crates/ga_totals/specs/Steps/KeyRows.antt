-- The rows that are made of a total's lists.
use Rattle.std.specs.Prelude.{◌≡◌, ◌<◌, ℕ, List, [], Some, All, map, slice_get, slice_index_or}
use Rattle.std.specs.List.{Contains}
use Rattle.std.specs.List.Sorted.{IsPermutation, IsSorted, IsStrictlySortedBy}
use Rattle.std.specs.declared.cmp.Ordering.{Ordering}
use Rattle.ga_base.specs.declared.counts.Sums.{Sums}
use Rattle.ga_base.specs.declared.key.Key.{Key}
use Rattle.ga_base.specs.declared.key.Visitor.{Visitor}
use Rattle.ga_base.specs.declared.name.Name.{Name}
use Rattle.ga_base.specs.Orders.{key_cmp, name_cmp, name_of}
use Rattle.ga_summary.specs.SummaryRows.{SummaryRow}

-- a key with its number
pub record NumberedKey : Type 0 where
  pub number : ℕ
  pub key : Key

abbrev pub number_cmp : NumberedKey → NumberedKey → Ordering
number_cmp a b = key_cmp a.key b.key

-- the keys with their numbers, in the order of the keys
pub record AreByKey (keys : List Key) (all : List NumberedKey) : Type 0 where
  pub same : IsPermutation keys (map (λ n. n.key) all)
  pub numbers : All (λ n. slice_get keys n.number ≡ Some n.key) all
  pub sorted : IsSorted number_cmp all

-- the name of the visitor with a number, and of none where none has it
abbrev pub name_at : List Visitor → ℕ → Name
name_at visitors v = name_of (slice_index_or visitors v (record { host = []; date = 0; agent = [] }))

-- the visitors of a key's number, of rows that have them at the keys' numbers: none after the last row
abbrev pub visitors_at : List (List ℕ) → ℕ → List ℕ
visitors_at rows number = slice_index_or rows number []

-- rows of visitors of whom there are this many
abbrev pub AreWithin : ℕ → List (List ℕ) → Type 0
AreWithin visitors rows = All (λ row. All (λ v. v < visitors) row) rows

-- the names of the visitors with these numbers, each once, in their order
pub record AreNamesOf (visitors : List Visitor) (row : List ℕ) (names : List Name) : Type 0 where
  pub rising : IsStrictlySortedBy name_cmp names
  pub only : (name : Name) → Contains names name → (v : ℕ) × Contains row v × (name_at visitors v ≡ name)
  pub all : (v : ℕ) → Contains row v → Contains names (name_at visitors v)

-- the row of a key
pub record IsRowOf (key : NumberedKey) (sums : List Sums) (visitors : List Visitor) (pairs : List (ℕ × ℕ)) (row : SummaryRow) : Type 0 where
  pub key_is : row.key ≡ key.key
  pub sums_are : slice_get sums key.number ≡ Some row.sums
  pub rising : IsStrictlySortedBy name_cmp row.names
  -- a name is that of a visitor that has a pair with the key, and each of these has its name there
  pub only : (name : Name) → Contains row.names name → (v : ℕ) × Contains pairs (key.number, v) × (name_at visitors v ≡ name)
  pub all : (v : ℕ) → Contains pairs (key.number, v) → Contains row.names (name_at visitors v)

-- a row for each key, in the order of the keys
pub record AreRowsOf (keys : List Key) (sums : List Sums) (visitors : List Visitor) (pairs : List (ℕ × ℕ)) (rows : List SummaryRow) : Type 0 where
  pub order : List NumberedKey
  pub by_key : AreByKey keys order
  pub keys_are : map (λ row. row.key) rows ≡ map (λ n. n.key) order
  pub each : All (λ row. (n : NumberedKey) × (slice_get keys n.number ≡ Some n.key) × IsRowOf n sums visitors pairs row) rows
