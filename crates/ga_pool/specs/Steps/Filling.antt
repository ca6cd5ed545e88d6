-- What workers put into the tables.
use Rattle.std.specs.Prelude.{◌≡◌, ◌+◌, ◌*◌, ◌<◌, ◌≤◌, ◌==◌, ℕ, max, List, [], ◌∷◌, ◌++◌, length, map, slice_index, slice_index_or, if◌then◌else◌, All}
use Rattle.ga_base.specs.declared.counts.Sums.{Sums}
use Rattle.ga_counts.specs.Counts.{maximum_at, tally_at}
use Rattle.ga_counts.specs.declared.view.CountView.{CountView}
use Rattle.ga_pairs.specs.declared.view.Pair.{Pair as Claim}
use Rattle.ga_pool.specs.declared.table_inputs.TableRows.{TableRows}
use Rattle.ga_tallies.specs.declared.pairs.Pair.{Pair}

-- what a number's sums add to a word
abbrev pub at_word : ℕ → ℕ → Sums → ℕ
at_word word k sums = if word == 3 * k then sums.hits
    else (if word == 3 * k + 1 then sums.bytes
    else (if word == 3 * k + 2 then sums.micros else 0))

-- and to how much they raise a place
abbrev pub at_place : ℕ → ℕ → Sums → ℕ
at_place place k sums = if place == k then sums.max_micros else 0

-- what rows of sums add to a word, each under its number
abbrev pub added_at : ℕ → List ℕ → List Sums → ℕ
added_at word [] rows = 0
added_at word (k ∷ numbers) [] = 0
added_at word (k ∷ numbers) (sums ∷ rows) = at_word word k sums + added_at word numbers rows

-- to how much they raise a place
abbrev pub raised_to : ℕ → List ℕ → List Sums → ℕ
raised_to place [] rows = 0
raised_to place (k ∷ numbers) [] = 0
raised_to place (k ∷ numbers) (sums ∷ rows) = max (at_place place k sums) (raised_to place numbers rows)

-- a seat put in so much more at each word, and raised each place to so much at least
pub record Gains (old new : CountView) (gain peak : ℕ → ℕ) : Type 0 where
  pub share : new.share ≡ old.share
  pub allowance : new.allowance ≡ old.allowance
  pub words : length new.tallies ≡ length old.tallies
  pub places : length new.maxima ≡ length old.maxima
  pub tallies : (word : ℕ) → tally_at word new ≡ tally_at word old + gain word
  pub peaks : (place : ℕ) → maximum_at place new ≡ max (maximum_at place old) (peak place)

-- nothing was put in, and there are this many words and places
pub record IsBlank (words places : ℕ) (v : CountView) : Type 0 where
  pub words_are : length v.tallies ≡ words
  pub places_are : length v.maxima ≡ places
  pub tallies : (word : ℕ) → tally_at word v ≡ 0
  pub peaks : (place : ℕ) → maximum_at place v ≡ 0

-- each row has a number of its own below the keys, and is within the allowance
pub record CanAdd (keys allowance : ℕ) (numbers : List ℕ) (rows : List Sums) : Type 0 where
  pub many : length rows ≤ length numbers
  pub few : length rows < 4294967296
  pub below : (i : ℕ) → i < length rows → slice_index numbers i < keys
  pub apart : (i j : ℕ) → i < length rows → j < length rows → slice_index numbers i ≡ slice_index numbers j → i ≡ j
  pub within : All (λ sums. (sums.hits ≤ allowance) × (sums.bytes ≤ allowance) × (sums.micros ≤ allowance)) rows

-- the numbers of a pair's key and visitor
abbrev pub claim_of : List ℕ → List ℕ → Pair → Claim
claim_of numbers names pair = record { key = slice_index numbers pair.key; visitor = slice_index names pair.visitor }

-- the numbers of a pair are there, and aren't too great
pub record IsNumbered (keys visitors : ℕ) (numbers names : List ℕ) (pair : Pair) : Type 0 where
  pub key : pair.key < length numbers
  pub visitor : pair.visitor < length names
  pub key_below : slice_index numbers pair.key < keys
  pub visitor_below : slice_index names pair.visitor < visitors

abbrev pub CanClaim : ℕ → ℕ → List ℕ → List ℕ → List Pair → Type 0
CanClaim keys visitors numbers names pairs = All (IsNumbered keys visitors numbers names) pairs

-- what rows weigh: the most that they add to one word
abbrev pub weight_of_rows : TableRows → ℕ
weight_of_rows rows = rows.totals.lines + rows.totals.bytes + rows.totals.micros

-- the numbers of a worker's items
abbrev pub numbers_at : List (List ℕ) → ℕ → List ℕ
numbers_at numbers worker = slice_index_or numbers worker []

-- the rows of a worker can be put in
pub record CanPut (keys visitors : ℕ) (numbers names : List (List ℕ)) (worker : ℕ) (rows : TableRows) : Type 0 where
  pub sums : CanAdd keys (weight_of_rows rows) (numbers_at numbers worker) rows.sums.items
  pub pairs : CanClaim keys visitors (numbers_at numbers worker) (numbers_at names worker) rows.pairs.items

-- numbers of each worker's rows, from this one on, added up; the greatest of them; and lists, one after the other
abbrev pub sum_from : (ℕ → TableRows → ℕ) → ℕ → List TableRows → ℕ
sum_from f worker [] = 0
sum_from f worker (rows ∷ more) = f worker rows + sum_from f (worker + 1) more

abbrev pub max_from : (ℕ → TableRows → ℕ) → ℕ → List TableRows → ℕ
max_from f worker [] = 0
max_from f worker (rows ∷ more) = max (f worker rows) (max_from f (worker + 1) more)

abbrev pub lists_from : {X : Type 0} → (ℕ → TableRows → List X) → ℕ → List TableRows → List X
lists_from f worker [] = []
lists_from f worker (rows ∷ more) = f worker rows ++ lists_from f (worker + 1) more

-- what a worker's rows add to a word, to how much they raise a place, and the pairs that they claim
abbrev pub adds : List (List ℕ) → ℕ → ℕ → TableRows → ℕ
adds numbers word worker rows = added_at word (numbers_at numbers worker) rows.sums.items

abbrev pub raises : List (List ℕ) → ℕ → ℕ → TableRows → ℕ
raises numbers place worker rows = raised_to place (numbers_at numbers worker) rows.sums.items

abbrev pub claims_of : List (List ℕ) → List (List ℕ) → ℕ → TableRows → List Claim
claims_of numbers names worker rows = map (claim_of (numbers_at numbers worker) (numbers_at names worker)) rows.pairs.items
