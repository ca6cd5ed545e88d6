-- Claims as plain data: a row of cells, each 0 or the word of a pair, and what the seat of each thread has asked and claimed.
use Rattle.std.specs.Prelude.{◌≡◌, ◌≢◌, ◌↔◌, ℕ, ◌+◌, ◌-◌, ◌<◌, ◌≤◌, not, ◌==◌, List, [], ◌∷◌, ◌++◌, length, slice_index, count_by, sum_by, All, AllPairs, Contains, IfSome}
use Rattle.atomic_table.specs.Seated.{TableId}
use Rattle.ga_pairs.specs.Homes.{IsPair, word_of, home, round}
use Rattle.ga_pairs.specs.declared.view.Claims.{Claims}
use Rattle.ga_pairs.specs.declared.view.Opening.{Opening}
use Rattle.ga_pairs.specs.declared.view.Pair.{Pair}
use Rattle.ga_pairs.specs.declared.view.PairView.{PairView}
use Rattle.ga_pairs.specs.declared.view.Probe.{Probe}

pub record PairState : Type 0 where
  pub cells : List ℕ
  pub views : List PairView

-- how often a word is in a row of cells, and among the words of pairs
abbrev pub times : ℕ → List ℕ → ℕ
times word words = count_by (λ w. w == word) words

abbrev pub times_in : ℕ → List Pair → ℕ
times_in word pairs = count_by (λ pair. word_of pair == word) pairs

-- how many cells are not 0
abbrev pub used : List ℕ → ℕ
used cells = count_by (λ word. not (word == 0)) cells

-- the place this many cells after a pair's home, round the row, and the word there
abbrev pub place_after : ℕ → Pair → ℕ → ℕ
place_after cells pair passed = round cells (home cells (word_of pair) + passed)

abbrev pub cell_after : List ℕ → Pair → ℕ → ℕ
cell_after cells pair passed = slice_index cells (place_after (length cells) pair passed)

-- a view without a share has no allowance, and nothing in its lists
abbrev pub IsSpent : PairView → Type 0
IsSpent v = (v.claims.allowance ≡ 0) × (v.claims.asked ≡ []) × (v.claims.mine ≡ [])

-- the pairs of a view's lists and of its probe are pairs of numbers that are not too great
pub record HasPairs (v : PairView) : Type 0 where
  pub asked : All IsPair v.claims.asked
  pub mine : All IsPair v.claims.mine
  pub probe : IfSome v.probe (λ probe. IsPair probe.pair)

-- the cells that a probe passed are neither 0 nor its pair
abbrev pub HasPassed : List ℕ → Probe → Type 0
HasPassed cells probe = (j : ℕ) → j < probe.passed → (cell_after cells probe.pair j ≢ 0) × (cell_after cells probe.pair j ≢ word_of probe.pair)

-- what holds of the claims at each moment, by what they were opened with
pub record Inv (opening : Opening) (s : PairState) : Type 0 where
  pub shares : sum_by (λ v. v.claims.share) s.views ≡ opening.shares
  pub spent : All (λ v. v.claims.share ≡ 0 → IsSpent v) s.views
  -- the mine lists of all views together are the words in the cells, each once
  pub placed : (word : ℕ) → word ≢ 0 → times word s.cells ≡ sum_by (λ v. times_in word v.claims.mine) s.views
  pub once : (word : ℕ) → word ≢ 0 → times word s.cells ≤ 1
  -- and they are as many
  pub many : used s.cells ≡ sum_by (λ v. length v.claims.mine) s.views
  pub numbers : All HasPairs s.views
  -- each pair of a view's mine is in its asked
  pub asked : All (λ v. All (Contains v.claims.asked) v.claims.mine) s.views
  -- each asked pair is in a cell
  pub in_cells : All (λ v. All (λ pair. Contains s.cells (word_of pair)) v.claims.asked) s.views
  -- the cells from a pair's home up to its cell are not 0
  pub reached : (pair : Pair) (at : ℕ) → at < length s.cells → cell_after s.cells pair at ≡ word_of pair → (j : ℕ) → j < at → cell_after s.cells pair j ≢ 0
  -- the cells that a probe passed are neither 0 nor its pair, and the allowance of its view is at least 1
  pub passed : All (λ v. IfSome v.probe (λ probe. HasPassed s.cells probe × (1 ≤ v.claims.allowance))) s.views
  -- used cells and all allowances are less than the cells
  pub room : used s.cells + sum_by (λ v. v.claims.allowance) s.views < length s.cells
  pub size : length s.cells ≡ opening.cells

-- the claims after a pair was won, and after it was found to be there
abbrev pub won : Claims → Pair → Claims
won c pair = record { share = c.share; allowance = c.allowance - 1; asked = c.asked ++ pair ∷ []; mine = c.mine ++ pair ∷ [] }

abbrev pub met : Claims → Pair → Claims
met c pair = record { share = c.share; allowance = c.allowance - 1; asked = c.asked ++ pair ∷ []; mine = c.mine }

-- the claims of a new seat of a split, and what is left of the first
abbrev pub given : ℕ → ℕ → Claims
given share allowance = record { share = share; allowance = allowance; asked = []; mine = [] }

abbrev pub left : Claims → ℕ → ℕ → Claims
left c share allowance = record c { share = c.share - share; allowance = c.allowance - allowance }

-- the claims of two seats as one
abbrev pub joined : Claims → Claims → Claims
joined c d = record { share = c.share + d.share; allowance = c.allowance + d.allowance; asked = c.asked ++ d.asked; mine = c.mine ++ d.mine }

-- what contracts see of a set: which table it is, and what it was opened with
pub record SetSeen : Type 0 where
  pub table : TableId
  pub opening : Opening

-- what contracts see of a seat: which table it is of, and what it asked and claimed
pub record SeatSeen : Type 0 where
  pub table : TableId
  pub claims : Claims

-- what the words of a closed set are to the seat that had all shares
pub record IsClosed (claims : Claims) (words : List ℕ) : Type 0 where
  -- no pair was won twice
  pub different : AllPairs ◌≢◌ claims.mine
  -- the pairs that were won are those that were asked
  pub exact : (pair : Pair) → Contains claims.mine pair ↔ Contains claims.asked pair
  -- the words other than 0 are those of these pairs, each once
  pub theirs : (word : ℕ) → word ≢ 0 → (times word words ≡ times_in word claims.mine) × (times word words ≤ 1)
  -- and they are as many
  pub many : used words ≡ length claims.mine
