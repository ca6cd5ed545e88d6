-- What is counted of a batch, in tables, and the summary for which it stands.
use Rattle.std.specs.Prelude.{◌≡◌, ◌≢◌, ◌↔◌, ◌+◌, ◌*◌, ◌≤◌, ℕ, Bool, true, is_some, nat_lt, length, slice_get, slice_index, Some, List}
use Rattle.std.specs.List.{Contains, IsDistinct, list_any}
use Rattle.ga_base.specs.declared.counts.Sums.{Sums}
use Rattle.ga_base.specs.declared.counts.Totals.{Totals}
use Rattle.ga_base.specs.declared.key.Key.{Key}
use Rattle.ga_base.specs.declared.key.Visitor.{Visitor}
use Rattle.ga_base.specs.Orders.{is_same_key, is_same_visitor}
use Rattle.ga_counts.specs.Counts.{ClosedSeen}
use Rattle.ga_pairs.specs.Pairs.{times}
use Rattle.ga_pool.specs.declared.counted.Counted.{Counted}
use Rattle.ga_summary.specs.Outcomes.{Outcome, sums_of, has_visit, totals_of}
use Rattle.ga_summary.specs.SummaryRows.{SummaryValue, row_at, sums_at, has_pair}

-- what was counted: the totals, which keys there are, the sums of a key, and whether it has a visitor
pub record Said : Type 0 where
  pub totals : Totals
  pub has : Key → Bool
  pub sums : Key → Sums
  pub visits : Key → Visitor → Bool

-- by a summary, and by a list of outcomes
abbrev pub said_by : SummaryValue → Said
said_by s = record { totals = s.totals; has = λ key. is_some (row_at s.rows key); sums = sums_at s.rows; visits = has_pair s.rows }

abbrev pub said_of : List Outcome → Said
said_of outcomes = record {
  totals = totals_of outcomes;
  has = λ key. nat_lt 0 (sums_of key outcomes).hits;
  sums = λ key. sums_of key outcomes;
  visits = λ key visitor. has_visit key visitor outcomes;
}

-- the sums of a key's number: three words one after the other, and a maximum
abbrev pub sums_at_number : ClosedSeen → ℕ → Sums
sums_at_number counts k = record {
  hits = slice_index counts.sums (3 * k);
  bytes = slice_index counts.sums (3 * k + 1);
  micros = slice_index counts.sums (3 * k + 2);
  max_micros = slice_index counts.maxima k;
}

-- a word is that of a key and a visitor of it, by their numbers
pub record IsVisit (counted : Counted) (said : Said) (word : ℕ) : Type 0 where
  pub k : ℕ
  pub v : ℕ
  pub key : Key
  pub visitor : Visitor
  pub word_is : word ≡ 4294967296 * k + v + 1
  pub key_is : slice_get counted.keys.items k ≡ Some key
  pub visitor_is : slice_get counted.visitors.items v ≡ Some visitor
  pub visits : said.visits key visitor ≡ true

-- the tables have what was counted
pub record Stands (counted : Counted) (said : Said) : Type 0 where
  pub totals : counted.totals ≡ said.totals
  -- the keys that have numbers are those that there are, each once
  pub different_keys : IsDistinct is_same_key counted.keys.items
  pub keys : (key : Key) → list_any (is_same_key key) counted.keys.items ≡ said.has key
  -- each has three words and a maximum, which are its sums
  pub words : length counted.counts.sums ≡ 3 * length counted.keys.items
  pub maxima : length counted.counts.maxima ≡ length counted.keys.items
  pub sums : (k : ℕ) (key : Key) → slice_get counted.keys.items k ≡ Some key → sums_at_number counted.counts k ≡ said.sums key
  -- no visitor has two numbers, and each is one of a key
  pub different_visitors : IsDistinct is_same_visitor counted.visitors.items
  pub used : (v : ℕ) (visitor : Visitor) → slice_get counted.visitors.items v ≡ Some visitor → (key : Key) × (said.visits key visitor ≡ true)
  -- the words that aren't 0 are those of the keys' visitors, each once
  pub pairs : (word : ℕ) → word ≢ 0 → Contains counted.pairs word ↔ IsVisit counted said word
  pub once : (word : ℕ) → word ≢ 0 → times word counted.pairs ≤ 1
  -- and each visitor of a key has such a word
  pub visits : (key : Key) (visitor : Visitor) → said.visits key visitor ≡ true → (k : ℕ) × (v : ℕ)
      × (slice_get counted.keys.items k ≡ Some key) × (slice_get counted.visitors.items v ≡ Some visitor)

-- the tables represent a summary
abbrev pub StandsFor : Counted → SummaryValue → Type 0
StandsFor counted s = Stands counted (said_by s)
