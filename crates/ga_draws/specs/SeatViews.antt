-- The views of a shared table's seats, as one list: a seat is a place in it. A view has a share of the right to know the
-- whole, and an allowance of what its seat may still do.
use Rattle.std.specs.Prelude.{ℕ, List, [], ◌∷◌, ◌++◌, slice_set}

module _ {V : Type 0} where
  -- the views after a split: the seat keeps `left`, and a new seat has `right`
  abbrev pub after_split : List V → ℕ → V → V → List V
  after_split views seat left right = slice_set views seat left ++ right ∷ []

  -- the views after a join: the seat has `both`, and the other is left with `spent`
  abbrev pub after_join : List V → ℕ → V → ℕ → V → List V
  after_join views seat both other spent = slice_set (slice_set views seat both) other spent
