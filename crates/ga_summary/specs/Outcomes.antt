-- What becomes of the lines of a log, and what is counted of a list of them.
use Rattle.std.specs.Prelude.{ℕ, Bool, true, false, List, [], ◌∷◌, Option, Some, None, ◌++◌, length, replicate, filter, sum_by, count_by, max, unwrap_or}
use Rattle.std.specs.List.{list_any}
use Rattle.ga_base.specs.declared.key.Key.{Key}
use Rattle.ga_base.specs.declared.key.Visitor.{Visitor}
use Rattle.ga_base.specs.declared.record.Record.{Record}
use Rattle.ga_base.specs.declared.counts.Sums.{Sums}
use Rattle.ga_base.specs.declared.counts.Totals.{Totals}
use Rattle.ga_base.specs.Orders.{is_same_key, is_same_visitor}

-- what a counted line counts for: its keys, its visitor if it has one, and its amounts
pub record Hit : Type 0 where
  pub keys : List Key
  pub visitor : Option Visitor
  pub bytes : ℕ
  pub micros : ℕ

-- a line failed, was excluded, or is counted
pub data Outcome : Type 0 where
  Failed : Outcome
  Excluded : Outcome
  Counted : (hit : Hit) → Outcome

-- what a record counts for under its keys; an absent time is 0
abbrev pub hit_of : List Key → Option Visitor → Record → Hit
hit_of keys visitor rec = record { keys = keys; visitor = visitor; bytes = rec.bytes; micros = unwrap_or rec.micros 0 }

abbrev pub is_failed : Outcome → Bool
is_failed Failed = true
is_failed Excluded = false
is_failed (Counted hit) = false

abbrev pub is_excluded : Outcome → Bool
is_excluded Failed = false
is_excluded Excluded = true
is_excluded (Counted hit) = false

-- the counted lines
abbrev pub hits_of : List Outcome → List Hit
hits_of [] = []
hits_of (Failed ∷ outcomes) = hits_of outcomes
hits_of (Excluded ∷ outcomes) = hits_of outcomes
hits_of (Counted hit ∷ outcomes) = hit ∷ hits_of outcomes

abbrev pub has_key : Key → Hit → Bool
has_key key hit = list_any (λ other. is_same_key key other) hit.keys

abbrev pub is_by : Visitor → Option Visitor → Bool
is_by visitor None = false
is_by visitor (Some other) = is_same_visitor visitor other

-- the counted lines that have the key
abbrev pub hits_at : Key → List Outcome → List Hit
hits_at key outcomes = filter (has_key key) (hits_of outcomes)

-- the greatest of the lines' times
abbrev pub greatest_time : List Hit → ℕ
greatest_time [] = 0
greatest_time (hit ∷ hits) = max hit.micros (greatest_time hits)

-- a key's sums: over the counted lines that have it
abbrev pub sums_of : Key → List Outcome → Sums
sums_of key outcomes = let hits = hits_at key outcomes in
    record { hits = length hits; bytes = sum_by (λ hit. hit.bytes) hits; micros = sum_by (λ hit. hit.micros) hits; max_micros = greatest_time hits }

-- whether some counted line that has the key is by the visitor
abbrev pub has_visit : Key → Visitor → List Outcome → Bool
has_visit key visitor outcomes = list_any (λ hit. is_by visitor hit.visitor) (hits_at key outcomes)

-- the totals: over all lines
abbrev pub totals_of : List Outcome → Totals
totals_of outcomes = let hits = hits_of outcomes in
    record {
      lines = length outcomes;
      failed = count_by is_failed outcomes;
      excluded = count_by is_excluded outcomes;
      hits = length hits;
      bytes = sum_by (λ hit. hit.bytes) hits;
      micros = sum_by (λ hit. hit.micros) hits;
    }

-- this many failed lines, and then this many excluded ones
abbrev pub lines_of : ℕ → ℕ → List Outcome
lines_of failed excluded = replicate failed Failed ++ replicate excluded Excluded
