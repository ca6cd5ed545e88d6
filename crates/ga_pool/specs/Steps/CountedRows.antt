-- How the rows of a summary come from tables, which only inner contracts and proofs say.
use Rattle.std.specs.Prelude.{◌≡◌, ◌-◌, ◌/◌, ◌%◌, ◌<◌, ◌≤◌, ◌==◌, ◌&&◌, ◌≢◌, not, ℕ, List, Option, Some, None, slice_get, if◌then◌else◌}
use Rattle.std.specs.List.{filter_map, Contains}
use Rattle.std.specs.List.Sorted.{IsPermutation, IsSorted}
use Rattle.std.specs.Option.{option_map}
use Rattle.ga_base.specs.declared.key.Visitor.{Visitor}
use Rattle.ga_base.specs.declared.name.Name.{Name}
use Rattle.ga_base.specs.Orders.{name_cmp, name_of}
use Rattle.ga_pool.specs.Stands.{sums_at_number}
use Rattle.ga_pool.specs.declared.counted.Counted.{Counted}
use Rattle.ga_summary.specs.SummaryRows.{SummaryRow}

-- the number of a word's key, and of its visitor
abbrev pub key_in : ℕ → ℕ
key_in word = word / 4294967296

abbrev pub visitor_in : ℕ → ℕ
visitor_in word = word % 4294967296 - 1

-- the name of a word's visitor, where the word is under this key's number
abbrev pub name_under : List Visitor → ℕ → ℕ → Option Name
name_under people k word = if not (word == 0) && (key_in word == k) then option_map name_of (slice_get people (visitor_in word)) else None

-- the names under a key's number, in the order of the words
abbrev pub names_under : List Visitor → ℕ → List ℕ → List Name
names_under people k words = filter_map (name_under people k) words

-- each word that isn't 0 is of a key and a visitor that are there
abbrev pub AreWithin : ℕ → ℕ → List ℕ → Type 0
AreWithin keys visitors words = (word : ℕ) → word ≢ 0 → Contains words word → (key_in word < keys) × (1 ≤ word % 4294967296) × (visitor_in word < visitors)

-- the row of a key's number, with its names in order
pub record IsRowOf (counted : Counted) (k : ℕ) (row : SummaryRow) : Type 0 where
  pub key : slice_get counted.keys.items k ≡ Some row.key
  pub sums : row.sums ≡ sums_at_number counted.counts k
  pub names : IsPermutation (names_under counted.visitors.items k counted.pairs) row.names
  pub sorted : IsSorted name_cmp row.names
