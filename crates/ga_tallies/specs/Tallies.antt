-- What is counted of outcomes, in numbers: keys and visitors by their places in lists of different ones, sums by a key's place.
use Rattle.std.specs.Prelude.{◌≡◌, ◌<◌, ◌++◌, ◌∷◌, [], ◌+◌, ℕ, true, nat_lt, List, flat_map, fold, length, map, slice_get, Some}
use Rattle.std.specs.List.{AllZip, Contains, IsDistinct, list_any}
use Rattle.smallvec.specs.SmallVec.{SmallVec}
use Rattle.ga_base.specs.declared.counts.Sums.{Sums}
use Rattle.ga_base.specs.declared.counts.Totals.{Totals}
use Rattle.ga_base.specs.declared.key.Key.{Key}
use Rattle.ga_base.specs.declared.key.Visitor.{Visitor}
use Rattle.ga_base.specs.Orders.{is_same_key, is_same_visitor}
use Rattle.ga_summary.specs.Outcomes.{Outcome, sums_of, has_visit, totals_of}
use Rattle.ga_base.specs.Totals.{totals_plus, TotalsFit}
use Rattle.ga_summary.specs.Sound.{AllCountable}
use Rattle.ga_outcomes.specs.LineOutcomes.{HaveOutcomes}
use Rattle.ga_tallies.specs.declared.pairs.Pair.{Pair}
use Rattle.ga_tallies.specs.declared.tally_parts.TallyParts.{TallyParts}
use Rattle.ga_outcomes.specs.declared.setup.Setup.{Setup}

-- a tally as contracts see it
pub record TallySeen : Type 0 where
  pub totals : Totals
  -- the key of each number, and the visitor of each
  pub keys : List Key
  pub visitors : List Visitor
  -- the sums of each key's number
  pub sums : List Sums
  -- numbers of a key and of a visitor of it, read as a set
  pub pairs : List (ℕ × ℕ)

-- t is what is counted of these outcomes
pub record IsTallyOf (outcomes : List Outcome) (t : TallySeen) : Type 0 where
  pub totals : t.totals ≡ totals_of outcomes
  -- no key and no visitor has two numbers
  pub different_keys : IsDistinct is_same_key t.keys
  pub different_visitors : IsDistinct is_same_visitor t.visitors
  pub sums : t.sums ≡ map (λ key. sums_of key outcomes) t.keys
  -- a key has a number exactly where a counted line has it
  pub counted : (key : Key) → list_any (is_same_key key) t.keys ≡ nat_lt 0 (sums_of key outcomes).hits
  -- a pair is of numbers that are there, and says that the key has the visitor
  pub pairs : (k v : ℕ) → Contains t.pairs (k, v) → (key : Key) × (visitor : Visitor)
      × (slice_get t.keys k ≡ Some key) × (slice_get t.visitors v ≡ Some visitor) × (has_visit key visitor outcomes ≡ true)
  -- each visitor of a key has such a pair
  pub visits : (key : Key) (visitor : Visitor) → has_visit key visitor outcomes ≡ true → (k : ℕ) × (v : ℕ) × (known : Key) × (seen : Visitor)
      × (slice_get t.keys k ≡ Some known) × (is_same_key key known ≡ true)
      × (slice_get t.visitors v ≡ Some seen) × (is_same_visitor visitor seen ≡ true) × Contains t.pairs (k, v)
  -- and each visitor that has a number is one of a key
  pub used : (v : ℕ) → v < length t.visitors → (k : ℕ) × Contains t.pairs (k, v)

-- the numbers of a pair
abbrev pub pair_of : Pair → ℕ × ℕ
pair_of pair = (pair.key, pair.visitor)

-- the pairs of a key's visitors, and those of rows of visitors, each row at its key's number
abbrev pub row_pairs : ℕ → List ℕ → List (ℕ × ℕ)
row_pairs key row = map (λ visitor. (key, visitor)) row

abbrev pub pairs_from : ℕ → List (List ℕ) → List (ℕ × ℕ)
pairs_from key [] = []
pairs_from key (row ∷ rows) = row_pairs key row ++ pairs_from (key + 1) rows

abbrev pub pairs_in : List (List ℕ) → List (ℕ × ℕ)
pairs_in rows = pairs_from 0 rows

-- the lists that rows hold
abbrev pub lists_in : {T : Type 0} → List (SmallVec T) → List (List T)
lists_in rows = map (λ row. row.items) rows

-- the parts of a tally, seen as the tally that they were

abbrev pub seen_in : TallyParts → TallySeen
seen_in parts = record {
  totals = parts.totals;
  keys = parts.keys;
  visitors = parts.visitors;
  sums = parts.sums.items;
  pairs = pairs_in (lists_in parts.visits.items);
}

-- a tally took in these lines, after the outcomes that it was of
pub record TakesIn (setup : Setup) (all : List (List ℕ)) (old new : TallySeen) : Type 0 where
  pub outcomes : List Outcome
  pub have_outcomes : HaveOutcomes setup all outcomes
  pub countable : AllCountable outcomes
  pub tally : (before : List Outcome) → IsTallyOf before old → IsTallyOf (before ++ outcomes) new

-- these lines, up to one of them, have totals after those of earlier outcomes that don't fit
pub record PassesLimit (setup : Setup) (before : List Outcome) (all : List (List ℕ)) : Type 0 where
  pub front : List (List ℕ)
  pub back : List (List ℕ)
  pub split : all ≡ front ++ back
  pub outcomes : List Outcome
  pub have_outcomes : HaveOutcomes setup front outcomes
  pub full : ¬ TotalsFit (totals_of (before ++ outcomes))

-- whatever the tally is of, these lines after it are too much
abbrev pub Overfills : Setup → List (List ℕ) → TallySeen → Type 0
Overfills setup all old = (before : List Outcome) → IsTallyOf before old → PassesLimit setup before all

-- each tally is of its part of the outcomes, and the parts are together
abbrev pub AreTalliesOf : List (List Outcome) → List TallySeen → Type 0
AreTalliesOf parts tallies = AllZip IsTallyOf parts tallies

abbrev pub together : List (List Outcome) → List Outcome
together parts = flat_map (λ part. part) parts

-- the totals of tallies, added up to others
abbrev pub totals_from : Totals → List TallySeen → Totals
totals_from start tallies = fold (λ sum tally. totals_plus sum tally.totals) start tallies

-- a tally took in what others have counted
abbrev pub AbsorbsAll : List TallySeen → TallySeen → TallySeen → Type 0
AbsorbsAll others old new = (before : List Outcome) (parts : List (List Outcome)) → IsTallyOf before old → AreTalliesOf parts others
    → IsTallyOf (before ++ together parts) new
