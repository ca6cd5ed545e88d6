-- Counts as plain data: sums, which are words, maxima, which are places, and what the seat of each thread has put in.
use Rattle.std.specs.Prelude.{◌≡◌, ℕ, ◌+◌, ◌-◌, ◌*◌, ◌≤◌, max, List, [], ◌∷◌, length, slice_index, slice_set, replicate, sum_by, All}
use Rattle.atomic_table.specs.Seated.{TableId}
use Rattle.ga_base.specs.declared.counts.TheConstants.{LIMIT}
use Rattle.ga_counts.specs.Greatest.{greatest_by}
use Rattle.ga_counts.specs.declared.view.CountView.{CountView}
use Rattle.ga_counts.specs.declared.view.Opening.{Opening}

pub record CountState : Type 0 where
  pub words : List ℕ
  pub maxima : List ℕ
  pub views : List CountView

-- what a view has put in at a word, and at a place. Where its list has none it is 0
abbrev pub tally_at : ℕ → CountView → ℕ
tally_at word v = slice_index v.tallies word

abbrev pub maximum_at : ℕ → CountView → ℕ
maximum_at place v = slice_index v.maxima place

-- a view without a share has no allowance, and its tallies and maxima are 0
pub record IsSpent (v : CountView) : Type 0 where
  pub allowance : v.allowance ≡ 0
  pub tallies : (word : ℕ) → tally_at word v ≡ 0
  pub maxima : (place : ℕ) → maximum_at place v ≡ 0

-- two lists with a number for each word, and for each place
abbrev pub IsRow : Opening → List ℕ → List ℕ → Type 0
IsRow opening words maxima = (length words ≡ opening.words) × (length maxima ≡ opening.maxima)

-- what holds of the counts at each moment, by what they were opened with
pub record Inv (opening : Opening) (s : CountState) : Type 0 where
  -- each word is the sum of the views' tallies there
  pub sums : (word : ℕ) → slice_index s.words word ≡ sum_by (tally_at word) s.views
  -- each maximum is the greatest of the views' maxima there, or 0
  pub greatest : (place : ℕ) → slice_index s.maxima place ≡ greatest_by (maximum_at place) s.views
  -- each tally is at most its view's allowance
  pub within : All (λ v. (word : ℕ) → tally_at word v ≤ v.allowance) s.views
  -- the allowances are the opening allowance
  pub allowances : sum_by (λ v. v.allowance) s.views ≡ opening.allowance
  -- which is at most three times the greatest value of a counter
  pub limit : opening.allowance ≤ 3 * LIMIT
  pub shares : sum_by (λ v. v.share) s.views ≡ opening.shares
  pub spent : All (λ v. v.share ≡ 0 → IsSpent v) s.views
  -- there are as many words and places as were opened, in each view with a share too
  pub row : IsRow opening s.words s.maxima
  pub rows : All (λ v. 1 ≤ v.share → IsRow opening v.tallies v.maxima) s.views

-- the numbers of two lists at each place, added up
abbrev pub added : List ℕ → List ℕ → List ℕ
added [] ys = ys
added (x ∷ xs) [] = x ∷ xs
added (x ∷ xs) (y ∷ ys) = (x + y) ∷ added xs ys

-- the greater of the numbers of two lists at each place
abbrev pub greater : List ℕ → List ℕ → List ℕ
greater [] ys = ys
greater (x ∷ xs) [] = x ∷ xs
greater (x ∷ xs) (y ∷ ys) = (max x y) ∷ greater xs ys

-- the view after n was added at a word
abbrev pub tallied : CountView → ℕ → ℕ → CountView
tallied v word n = record v { tallies = slice_set v.tallies word (tally_at word v + n) }

-- the view after a place was raised to n
abbrev pub raised : CountView → ℕ → ℕ → CountView
raised v place n = record v { maxima = slice_set v.maxima place (max (maximum_at place v) n) }

-- a new view of this many words and places, which has put in nothing
abbrev pub blank : ℕ → ℕ → ℕ → ℕ → CountView
blank words maxima share allowance = record { share = share; allowance = allowance; tallies = replicate words 0; maxima = replicate maxima 0 }

-- the new view of a split, and what is left of the first, which keeps its tallies and maxima
abbrev pub given : CountView → ℕ → ℕ → CountView
given v share allowance = blank (length v.tallies) (length v.maxima) share allowance

abbrev pub left : CountView → ℕ → ℕ → CountView
left v share allowance = record v { share = v.share - share; allowance = v.allowance - allowance }

-- two views as one
abbrev pub joined : CountView → CountView → CountView
joined v w = record { share = v.share + w.share; allowance = v.allowance + w.allowance; tallies = added v.tallies w.tallies; maxima = greater v.maxima w.maxima }

-- no share, no allowance and nothing put in
abbrev pub nothing : CountView
nothing = blank 0 0 0 0

-- what contracts see of a table: which it is, and what it was opened with
pub record TableSeen : Type 0 where
  pub table : TableId
  pub opening : Opening

-- what contracts see of a seat: which table it is of, and what it knows
pub record SeatSeen : Type 0 where
  pub table : TableId
  pub view : CountView

-- what contracts see of a closed table
pub record ClosedSeen : Type 0 where
  pub sums : List ℕ
  pub maxima : List ℕ
