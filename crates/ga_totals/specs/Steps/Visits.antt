-- How many different visitors are in the rows of keys.
use Rattle.std.specs.Prelude.{◌≡◌, ◌+◌, ◌<◌, ℕ, zero, suc, List, [], ◌∷◌, All, eqb, length}
use Rattle.std.specs.Set.{distinct_count}
use Rattle.ga_totals.specs.Steps.KeyRows.{visitors_at}

-- how many different visitors each of this many keys has, from the one with this number on
abbrev pub counts_of : List (List ℕ) → ℕ → ℕ → List ℕ
counts_of rows first zero = []
counts_of rows first (suc many) = distinct_count eqb (visitors_at rows first) ∷ counts_of rows (first + 1) many

-- a mark for each of this many visitors, or none yet, all of them below this one
pub record AreMarks (visitors below : ℕ) (marks : List ℕ) : Type 0 where
  pub many : 0 < length marks → length marks ≡ visitors
  pub low : All (λ m. m < below) marks
